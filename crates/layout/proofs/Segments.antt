-- What `count` computes is the segment count of its definition. Assumes nothing.
use Rattle.std.specs.Prelude.{◌≡◌, refl, Bool, true, false, cond, ℕ, ◌+◌, ◌-◌, ◌*◌, ◌≤◌, ◌<◌, max, ltb}
use Rattle.std.specs.Int.{div_ceil}
use Rattle.std.proofs.Common.{ap, ◌∙◌, arith, le_antisymm, ltb-true, ltb-false, le-div_iff_mul-le, div-lt_iff_lt-mul}
use Rattle.std.proofs.lemmas.Grind.{div_ceil_times}
use Rattle.layout.specs.Layout.{segments_of, count_of}

segments : (c l : ℕ) → 1 ≤ l → div_ceil c l ≡ segments_of c l
segments c l some =
    let s = div_ceil c l in
    let around = div_ceil_times c l some in
    let enough : c + (l - 1) < (s + 1) * l = omega (arith, around) in
    let few : s * l ≤ c + (l - 1) = omega (arith, around) in
    let below = (div-lt_iff_lt-mul some).1 enough in
    le_antisymm ((le-div_iff_mul-le some).1 few) (omega arith)

pub count_is : (c l : ℕ) → 1 ≤ l → max (div_ceil c l - 2) 1 ≡ count_of c l
count_is c l some = ap (λ (s : ℕ). max (s - 2) 1) (segments c l some) ∙ by_test (segments_of c l) (ltb (segments_of c l) 3) refl
  where
    by_test : (s : ℕ) (b : Bool) → ltb s 3 ≡ b → max (s - 2) 1 ≡ cond b 1 (s - 2)
    by_test s true e = omega (arith, ltb-true s 3 e)
    by_test s false e = omega (arith, ltb-false s 3 e)
