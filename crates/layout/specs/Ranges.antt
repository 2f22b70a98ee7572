-- Document 01, "Layout in whole numbers": the sizes at which the segment length is 4, 8, 16 and so on, up to the limit.
-- Assumes nothing.
use Rattle.std.specs.Prelude.{◌≡◌, refl, ℕ, ◌^◌, ◌≤◌}
use Rattle.std.proofs.Common.{ap}
use Rattle.capacity.specs.Capacity.{max_keys}
use Rattle.layout.specs.Layout.{reaches, exponent_of, segment_length_of}
use Rattle.layout.specs.Exponent.{exponent_between}

-- L is l at each size from lo to hi
abbrev pub Range : ℕ → ℕ → ℕ → Type 0
Range lo hi l = (n : ℕ) → lo ≤ n → n ≤ hi → segment_length_of n ≡ l

pub record Ranges : Type 0 where
  pub length_4 : Range 0 2 4
  pub length_8 : Range 3 8 8
  pub length_16 : Range 9 27 16
  pub length_32 : Range 28 91 32
  pub length_64 : Range 92 303 64
  pub length_128 : Range 304 1009 128
  pub length_256 : Range 1010 3361 256
  pub length_512 : Range 3362 max_keys 512

-- the exponent is the same at both ends
range : (lo hi e : ℕ) → exponent_of lo ≡ e → exponent_of hi ≡ e → Range lo hi (2 ^ e)
range lo hi e p q n from to = ap (λ (x : ℕ). 2 ^ x) (exponent_between lo hi e {n = n} from to p q)

pub ranges : Ranges
unfolding exponent_of reaches
ranges = record {
  length_4 = range 0 2 2 refl refl;
  length_8 = range 3 8 3 refl refl;
  length_16 = range 9 27 4 refl refl;
  length_32 = range 28 91 5 refl refl;
  length_64 = range 92 303 6 refl refl;
  length_128 = range 304 1009 7 refl refl;
  length_256 = range 1010 3361 8 refl refl;
  length_512 = range 3362 max_keys 9 refl refl;
}
