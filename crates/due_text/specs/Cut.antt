-- How a text of due flushes is cut into lines, and a line into words. The text is this project's own format; document 01 has none.
-- Bytes are numbers: tab 9, newline 10, carriage return 13, space 32, `#` 35. `cond test a b` is a where the test is true, else b.
-- Assumes nothing.
use Rattle.std.specs.Prelude.{ℕ, Bool, cond, ◌||◌, List, [], ◌∷◌, eqb}

-- a byte in front of the first piece; it is a piece by itself where there is none
abbrev pub in_front : ℕ → List (List ℕ) → List (List ℕ)
in_front byte [] = (byte ∷ []) ∷ []
in_front byte (piece ∷ more) = (byte ∷ piece) ∷ more

-- the pieces of a text, each up to a byte that ends it, which belongs to none; the last one may end with the text
unfoldable pub cut : (ends : ℕ → Bool) → List ℕ → List (List ℕ)
cut ends [] = []
cut ends (byte ∷ rest) = cond (ends byte) ([] ∷ cut ends rest) (in_front byte (cut ends rest))

abbrev pub newline? : ℕ → Bool
newline? byte = eqb byte 10

abbrev pub lines_of : List ℕ → List (List ℕ)
lines_of text = cut newline? text

-- what stands before the first `#`
unfoldable pub before_comment : List ℕ → List ℕ
before_comment [] = []
before_comment (byte ∷ rest) = cond (eqb byte 35) [] (byte ∷ before_comment rest)

abbrev pub blank? : ℕ → Bool
blank? byte = eqb byte 32 || eqb byte 9 || eqb byte 13 || eqb byte 10

-- the pieces that are not empty
abbrev pub without_empty : List (List ℕ) → List (List ℕ)
without_empty [] = []
without_empty ([] ∷ more) = without_empty more
without_empty ((byte ∷ rest) ∷ more) = (byte ∷ rest) ∷ without_empty more

-- words: what stands between blank bytes
abbrev pub words_of : List ℕ → List (List ℕ)
words_of line = without_empty (cut blank? line)
