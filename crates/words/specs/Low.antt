-- The low bits of each number of a run: what a run of wide elements comes to at a smaller width. Definition only. Assumes nothing.
use Rattle.std.specs.Prelude.{ℕ, ◌%◌, ◌^◌, List, map}

-- each number modulo 2 ^ w
unfoldable pub low : (w : ℕ) → List ℕ → List ℕ
low w values = map (λ x. x % 2 ^ w) values
