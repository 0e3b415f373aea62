-- The answers of potcount, as bytes. Assumes nothing: these are definitions.
use Rattle.std.specs.Prelude.{ℕ, zero, suc, ◌+◌, ◌/◌, ◌%◌, ◌≤◌, ◌≡◌, Bool, true, cond, ◌&&◌, List, [], ◌∷◌, ◌++◌, leb, ltb, length, Some, None, Result, Ok, Err}
use Prim.Native.Char.{code}
use Prim.Native.String.{String, [] as none, ◌∷◌ as ◌then◌}
use Rattle.line.specs.declared.commands.Answer.{Answer}
use Rattle.line.specs.declared.commands.Answer.TheVariants.{Kept, Exact, About, Count, Next}
use Rattle.rule.specs.declared.refusals.Refusal.{Refusal}
use Rattle.rule.specs.Refusals.{number_of}

-- a text as bytes, one for each character
abbrev pub bytes : String → List ℕ
bytes none = []
bytes (x then xs) = code x ∷ bytes xs

-- the decimal digits of a number below 10^k: its last digit, and before it those of what is left
abbrev pub decimal_in : ℕ → ℕ → List ℕ
decimal_in zero x = []
decimal_in (suc k) x = cond (ltb x 10) ((code "0" + x) ∷ []) (decimal_in k (x / 10) ++ ((code "0" + x % 10) ∷ []))

-- the decimal digits of a number of 64 bits
unfoldable pub decimal : ℕ → List ℕ
decimal x = decimal_in 20 x

-- a number after a few bytes, on a line of its own
abbrev pub text_line : List ℕ → ℕ → List ℕ
text_line head v = head ++ (decimal v ++ bytes "\n")

-- `K level cells`
abbrev pub text_kept : ℕ → ℕ → List ℕ
text_kept level cells = bytes "K " ++ (decimal level ++ text_line (bytes " ") cells)

-- `E exact v`
abbrev pub text_exact : ℕ → List ℕ
text_exact = text_line (bytes "E exact ")

-- `E about v`
abbrev pub text_about : ℕ → List ℕ
text_about = text_line (bytes "E about ")

-- `C v`
abbrev pub text_count : ℕ → List ℕ
text_count = text_line (bytes "C ")

-- `N cell`
abbrev pub text_cell : ℕ → List ℕ
text_cell = text_line (bytes "N ")

-- `N none`
abbrev pub text_none : List ℕ
text_none = bytes "N none\n"

-- `R number`
abbrev pub text_refusal : ℕ → List ℕ
text_refusal = text_line (bytes "R ")

-- an answer or a refusal as a line
abbrev pub text_of : Result Answer Refusal → List ℕ
text_of (Ok (Kept level cells)) = text_kept level cells
text_of (Ok (Exact v)) = text_exact v
text_of (Ok (About v)) = text_about v
text_of (Ok (Count v)) = text_count v
text_of (Ok (Next (Some cell))) = text_cell cell
text_of (Ok (Next None)) = text_none
text_of (Err refusal) = text_refusal (number_of refusal)

-- bytes that are seen, and the space
abbrev pub visible : List ℕ → Bool
visible [] = true
visible (x ∷ xs) = (leb (code " ") x && leb x (code "~")) && visible xs

-- a text is one line: up to 39 visible bytes and a newline
pub record OneLine (text : List ℕ) : Type 0 where
  pub body : List ℕ
  pub ended : text ≡ body ++ bytes "\n"
  pub seen : visible body ≡ true
  pub short : length text ≤ 40

-- numbers, one space before each
abbrev pub spaced : List ℕ → List ℕ
spaced [] = []
spaced (x ∷ xs) = bytes " " ++ (decimal x ++ spaced xs)

-- each number has 32 bits
abbrev pub Small : List ℕ → Type 0
Small [] = Unit {0}
Small (x ∷ xs) = (x ≤ 4294967295) × Small xs
