-- What the steps of reading a line answer, from the definitions of its words. Assumes nothing: these are definitions.
use Rattle.std.specs.Prelude.{ℕ, cond, ◌&&◌, List, [], ◌∷◌, leb, eqb, length, get_or, Option, Some, None}
use Prim.Native.Char.{code}
use Rattle.lists.specs.Rows.{pad}
use Rattle.rule.specs.declared.Settings.{Settings}
use Rattle.line.specs.declared.commands.Command.{Command}
use Rattle.line.specs.declared.commands.Command.TheVariants as command
use Rattle.line.specs.declared.commands.Numbers.{Numbers}
use Rattle.line.specs.Lines.{Word, words, numbers}

-- the bytes up to the next space, and those from it on
abbrev pub first_word : List ℕ → Word
first_word [] = []
first_word (x ∷ xs) = cond (eqb x (code " ")) [] (x ∷ first_word xs)

abbrev pub after_word : List ℕ → List ℕ
after_word [] = []
after_word (x ∷ xs) = cond (eqb x (code " ")) (x ∷ xs) (after_word xs)

-- what stands after a word: nothing, or a space and numbers
abbrev pub numbers_after : List ℕ → Option (List ℕ)
numbers_after [] = Some []
numbers_after (x ∷ xs) = cond (eqb x (code " ")) (numbers (words xs)) None

-- up to five numbers in a row
abbrev pub row_of : Option (List ℕ) → Option Numbers
row_of None = None
row_of (Some xs) = cond (leb (length xs) 5) (Some (record { count = length xs; values = pad 5 xs })) None

-- the settings in a row of five
abbrev pub settings_in : List ℕ → Settings
settings_in v = record { n = get_or v 0 0; p = get_or v 1 0; a = get_or v 2 0; b = get_or v 3 0; capacity = get_or v 4 0 }

-- what a letter and a row ask for
unfoldable pub asked : ℕ → Numbers → Option Command
asked letter m =
    cond (eqb m.count 5 && eqb letter (code "S"))
    (Some (command.Settings (settings_in m.values)))
    (cond (eqb m.count 2 && eqb letter (code "A"))
    (Some (command.Add (get_or m.values 0 0) (get_or m.values 1 0)))
    (cond (eqb m.count 0 && eqb letter (code "E"))
    (Some command.Estimate)
    (cond (eqb m.count 3 && eqb letter (code "C"))
    (Some (command.Count (get_or m.values 0 0) (get_or m.values 1 0) (get_or m.values 2 0)))
    (cond (eqb m.count 2 && eqb letter (code "N")) (Some (command.Next (get_or m.values 0 0) (get_or m.values 1 0))) None))))
