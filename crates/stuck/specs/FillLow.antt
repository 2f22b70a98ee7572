-- Filling and asking know the fingerprints by xor alone, which goes bit by bit: the low bits of what is filled in are what the low bits of the
-- fingerprints fill in, and the low bits of what a query leaves over are what is left over of the low bits. Assumes nothing.
use Rattle.std.specs.Prelude.{◌≡◌, ℕ, ◌%◌, ◌^◌}
use Rattle.std.proofs.Math.Path.{refl, ap}
use Rattle.std.proofs.Common.{◌∙◌}
use mathlib.Core.List.{List, [], ◌∷◌, map}
use Rattle.std.specs.Int.Bits.{xor_mod}
use Rattle.words.specs.Low.{low}
use Rattle.words.specs.LowLaws.{low_get_d, low-set}
use Rattle.stuck.specs.Stuck.{Slots}
use Rattle.stuck.specs.Fill.{Entry, store, fill, query_xor}

module _ (w : ℕ) where
  -- a removed key with the w low bits of its fingerprint
  abbrev pub low_entry : Entry → Entry
  low_entry e = record { slots = e.slots; position = e.position; fingerprint = e.fingerprint % 2 ^ w }

  pub store_low : (e : Entry) (values : List ℕ) → low w (store e values) ≡ store (low_entry e) (low w values)
  unfolding store
  store_low e values = simp (low-set, xor_mod, low_get_d)

  pub fill-low : (r : List Entry) (values : List ℕ) → low w (fill r values) ≡ fill (map low_entry r) (low w values)
  unfolding fill
  fill-low [] values = refl
  fill-low (e ∷ later) values = store_low e (fill later values) ∙ ap (store (low_entry e)) (fill-low later values)

  pub query_low : (t : Slots) (f : ℕ) (values : List ℕ) → query_xor t (f % 2 ^ w) (low w values) ≡ query_xor t f values % 2 ^ w
  unfolding query_xor
  query_low t f values = simp (xor_mod, low_get_d)
