-- A line of potcount's input, without its newline, and what it asks for. Assumes nothing: these are definitions.
use Rattle.std.specs.Prelude.{ℕ, ◌+◌, ◌*◌, ◌-◌, Bool, true, not, cond, ◌&&◌, List, [], ◌∷◌, leb, ltb, eqb, length, Option, Some, None}
use Prim.Native.Char.{code}
use Rattle.line.specs.declared.commands.Command.{Command}
use Rattle.line.specs.declared.commands.Command.TheVariants.{Settings, Add, Estimate, Count, Next}

-- a word: the bytes between two spaces
abbrev pub Word : Type 0
Word = List ℕ

-- a byte in front of the first word
abbrev pub into : ℕ → List Word → List Word
into x [] = (x ∷ []) ∷ []
into x (w ∷ ws) = (x ∷ w) ∷ ws

-- the words of a line: it is split at each space
abbrev pub words : List ℕ → List Word
words [] = [] ∷ []
words (x ∷ xs) = cond (eqb x (code " ")) ([] ∷ words xs) (into x (words xs))

abbrev pub digit : ℕ → Bool
digit x = leb (code "0") x && leb x (code "9")

abbrev pub digits : Word → Bool
digits [] = true
digits (x ∷ xs) = digit x && digits xs

-- no 0 before another digit
abbrev pub no_leading_zero : Word → Bool
no_leading_zero [] = true
no_leading_zero (x ∷ []) = true
no_leading_zero (x ∷ y ∷ w) = not (eqb x (code "0"))

-- the value of v followed by decimal digits
abbrev pub onward : ℕ → Word → ℕ
onward v [] = v
onward v (x ∷ xs) = onward (v * 10 + (x - code "0")) xs

abbrev pub value : Word → ℕ
value = onward 0

-- a number: decimal digits, at least one, no leading zero, at most 4294967295 (RULES: Program)
abbrev pub is_number : Word → Bool
is_number w = ltb 0 (length w) && (digits w && (no_leading_zero w && leb (value w) 4294967295))

abbrev pub number : Word → Option ℕ
number w = cond (is_number w) (Some (value w)) None

abbrev pub both : Option ℕ → Option (List ℕ) → Option (List ℕ)
both (Some x) (Some xs) = Some (x ∷ xs)
both (Some x) None = None
both None xs = None

-- each word is a number
abbrev pub numbers : List Word → Option (List ℕ)
numbers [] = Some []
numbers (w ∷ ws) = both (number w) (numbers ws)

-- the five shapes: a letter, each with so many numbers
abbrev pub shape : ℕ → Option (List ℕ) → Option Command
shape letter None = None
shape letter (Some []) = cond (eqb letter (code "E")) (Some Estimate) None
shape letter (Some (x ∷ [])) = None
shape letter (Some (x ∷ y ∷ [])) = cond (eqb letter (code "A")) (Some (Add x y)) (cond (eqb letter (code "N")) (Some (Next x y)) None)
shape letter (Some (x ∷ y ∷ z ∷ [])) = cond (eqb letter (code "C")) (Some (Count x y z)) None
shape letter (Some (x ∷ y ∷ z ∷ u ∷ [])) = None
shape letter (Some (n ∷ p ∷ a ∷ b ∷ capacity ∷ [])) = cond (eqb letter (code "S")) (Some (Settings (record { n = n; p = p; a = a; b = b; capacity = capacity }))) None
shape letter (Some (n ∷ p ∷ a ∷ b ∷ capacity ∷ x ∷ xs)) = None

-- the first word is one letter, and the others are numbers
abbrev pub spoken : List Word → Option Command
spoken [] = None
spoken ([] ∷ ws) = None
spoken ((letter ∷ []) ∷ ws) = shape letter (numbers ws)
spoken ((x ∷ y ∷ w) ∷ ws) = None

-- what a line asks for: at most 64 bytes, of a known shape (RULES: Program)
unfoldable pub command_of : List ℕ → Option Command
command_of line = cond (leb (length line) 64) (spoken (words line)) None
