-- What a set of keys gives to a slot, what is left of it without one of the keys, and that a slot touched once names its key.
-- Assumes nothing.
use Rattle.std.specs.Prelude.{◌≡◌, refl, Bool, true, false, List, [], ◌∷◌, map, length, get_or}
use Rattle.std.proofs.Math.Path.{sym, ap, fun_ext}
use Rattle.std.proofs.Common.{◌∙◌, subst}
use Prim.Native.Nat.{ℕ, ◌+◌, ◌-◌, ◌≤◌, ◌<◌}
use native.Mathlib.Omega.{arith}
use Rattle.std.proofs.lemmas.List.{length-map}
use Rattle.std.specs.Int.Bits.{bit_xor, xor_zero_r}
use Rattle.std.proofs.lemmas.Nat.{xor_comm}
use Rattle.std.proofs.Math.Dec.{T}
use Rattle.words.specs.Xor.{xor_cancel_right}
use Rattle.stuck.specs.Total.{Op, Adds, plus_adds, xor_adds, bit, total, total-without, total-none, count, some_counted}
use Rattle.stuck.specs.Stuck.{Slots, KeySet, key, nowhere, touches, Has, without, Alone}
use Rattle.stuck.specs.Sets.{has-lt, without_within, without_self}
use Rattle.stuck.specs.KeyMap.{key-map}
use Rattle.stuck.specs.TouchCount.{touch_count, alone_of_count}
use Rattle.machine.specs.Machine.{share}
use Rattle.machine.specs.Share.{share_off, share_one, Place, place_of}
use Rattle.machine.specs.Known.{Known, moved}

total-map : {X Y : Type 0} (op : Op) (f : Y → ℕ) (k : X → Y) (m : List Bool) (xs : List X) → total op f m (map k xs) ≡ total op (λ x. f (k x)) m xs
unfolding total
total-map op f k [] xs = refl
total-map op f k (b ∷ m) [] = refl
total-map op f k (true ∷ m) (x ∷ xs) = ap (λ (n : ℕ). op (f (k x)) n) (total-map op f k m xs)
total-map op f k (false ∷ m) (x ∷ xs) = total-map op f k m xs

-- `slots` has the slots of each hash, and hs the hashes of the keys
module _ (slots : ℕ → Slots) (hs : List ℕ) where
  -- a total over the keys of the set m: each gives `g` of its hash and of the position at which it touches slot s
  abbrev pub total_at : Op → (ℕ → ℕ → ℕ) → KeySet → ℕ → ℕ
  total_at op g m s = total op (λ h. share (slots h) s (g h)) m hs

  -- how many keys of m touch slot s
  unfoldable pub touching : KeySet → ℕ → ℕ
  touching m s = total_at ◌+◌ (λ h q. 1) m s

  -- what slot s should know of the keys of m
  unfoldable pub known_of : KeySet → ℕ → Known
  known_of m s = record { count = touching m s; hash = total_at bit_xor (λ h q. h) m s; position = total_at bit_xor (λ h q. q) m s }

  pub known_count : (m : KeySet) (s : ℕ) (k : Known) → k ≡ known_of m s → k.count ≡ touching m s
  unfolding known_of
  known_count m s k e = ap (λ (x : Known). x.count) e

  pub touching_is : (m : KeySet) (s : ℕ) → touching m s ≡ touch_count (map slots hs) m s
  unfolding touching touch_count count
  touching_is m s =
      ap (λ (f : ℕ → ℕ). total ◌+◌ f m hs) (fun_ext (λ h. share_one (slots h) s)) ∙ sym (total-map ◌+◌ (λ (t : Slots). bit (touches t s)) slots m hs)

  -- ---- without one key

  module _ (m : KeySet) (i : ℕ) (has : Has m i) (low : i < length hs) where
    abbrev h : ℕ
    h = get_or hs i 0

    abbrev t : Slots
    t = slots h

    total_off : (op : Op) → Adds op → (g : ℕ → ℕ → ℕ) (s : ℕ) → ¬ T (touches t s) → total_at op g (without m i) s ≡ total_at op g m s
    total_off op adds g s off =
        sym (total-without op adds (λ h. share (slots h) s (g h)) m hs i 0 has low
        ∙ ap (λ (x : ℕ). op x (total_at op g (without m i) s)) (share_off t s (g h) off) ∙ adds.zero_l _)

    total_on : (op : Op) → Adds op → (g : ℕ → ℕ → ℕ) (s : ℕ) (pl : Place t s) → total_at op g m s ≡ op (g h pl.position) (total_at op g (without m i) s)
    total_on op adds g s pl =
        total-without op adds (λ h. share (slots h) s (g h)) m hs i 0 has low
        ∙ ap (λ (x : ℕ). op x (total_at op g (without m i) s)) (pl.gives (g h))

    pub touching_off : (s : ℕ) → ¬ T (touches t s) → touching (without m i) s ≡ touching m s
    unfolding touching
    touching_off s off = total_off ◌+◌ plus_adds (λ h q. 1) s off

    pub known_off : (s : ℕ) → ¬ T (touches t s) → known_of (without m i) s ≡ known_of m s
    unfolding known_of
    known_off s off = λ j. record {
      count = touching_off s off j;
      hash = total_off bit_xor xor_adds (λ h q. h) s off j;
      position = total_off bit_xor xor_adds (λ h q. q) s off j;
    }

    pub touching_on : (s : ℕ) → Place t s → touching m s ≡ 1 + touching (without m i) s
    unfolding touching
    touching_on s pl = total_on ◌+◌ plus_adds (λ h q. 1) s pl

    xor_on : (g : ℕ → ℕ → ℕ) (s : ℕ) (pl : Place t s) → total_at bit_xor g (without m i) s ≡ bit_xor (total_at bit_xor g m s) (g h pl.position)
    xor_on g s pl =
        let share = g h pl.position in
        let rest = total_at bit_xor g (without m i) s in
        sym (ap (λ (x : ℕ). bit_xor x share) (total_on bit_xor xor_adds g s pl ∙ xor_comm share rest) ∙ xor_cancel_right rest share)

    pub known_on : (s : ℕ) (pl : Place t s) → known_of (without m i) s ≡ moved (λ c. c - 1) h pl.position (known_of m s)
    unfolding known_of
    known_on s pl = λ j. record {
      count = minus (touching m s) (touching (without m i) s) (touching_on s pl) j;
      hash = xor_on (λ h q. h) s pl j;
      position = xor_on (λ h q. q) s pl j;
    }
      where
        minus : (x y : ℕ) → x ≡ 1 + y → y ≡ x - 1
        minus x y e = omega arith

    pub touching_fewer : (s : ℕ) → touching (without m i) s ≤ touching m s
    unfolding touching
    touching_fewer s = omega (arith, total-without ◌+◌ plus_adds (λ h. share (slots h) s (λ q. 1)) m hs i 0 has low)

  -- ---- a slot touched once names its key

  -- the key, and where it touches the slot
  pub record Sole (m : KeySet) (s : ℕ) : Type 0 where
    pub i : ℕ
    pub low : i < length hs
    pub place : Place (slots (get_or hs i 0)) s
    pub alone : Alone (map slots hs) m i s

  pub sole : (m : KeySet) → length m ≡ length hs → (s : ℕ) → touching m s ≡ 1 → Sole m s
  unfolding touch_count
  sole m marks s one =
      record {
        i = w.0;
        low = low;
        place = place_of (slots (get_or hs w.0 0)) s (subst (λ (x : Slots). T (touches x s)) (key-map slots hs w.0 low) w.2);
        alone = alone_of_count (map slots hs) m (marks ∙ sym (length-map hs slots)) w.0 s w.1 w.2 once;
      }
    where
      once : touch_count (map slots hs) m s ≡ 1
      once = sym (touching_is m s) ∙ one

      w : (i : ℕ) × Has m i × T (touches (key (map slots hs) i) s)
      w = some_counted (λ (t : Slots). touches t s) m (map slots hs) nowhere (omega (arith, once))

      low : w.0 < length hs
      low = omega (arith, has-lt m w.0 w.1)

  -- the slot's xors are that key's hash and position
  pub sole_known : (m : KeySet) → length m ≡ length hs → (s : ℕ) (k : Sole m s)
      → known_of m s ≡ record { count = 1; hash = get_or hs k.i 0; position = k.place.position }
  unfolding known_of touching
  sole_known m marks s k = λ j. record {
    count = only ◌+◌ plus_adds (λ x. omega arith) (λ h q. 1) j;
    hash = only bit_xor xor_adds xor_zero_r (λ h q. h) j;
    position = only bit_xor xor_adds xor_zero_r (λ h q. q) j;
  }
    where
      nothing : (g : ℕ → ℕ → ℕ) (j : ℕ) → Has (without m k.i) j → share (slots (get_or hs j 0)) s (g (get_or hs j 0)) ≡ 0
      nothing g j h =
          share_off (slots (get_or hs j 0)) s (g (get_or hs j 0)) (λ t. without_self m k.i (subst (λ (x : ℕ). Has (without m k.i) x) (same_key t) h))
        where
          same_key : T (touches (slots (get_or hs j 0)) s) → j ≡ k.i
          same_key t =
              k.alone.only j (without_within m k.i j h)
              (subst (λ (x : Slots). T (touches x s)) (sym (key-map slots hs j (omega (arith, has-lt m j (without_within m k.i j h))))) t)

      only : (op : Op) → Adds op → ((x : ℕ) → op x 0 ≡ x) → (g : ℕ → ℕ → ℕ) → total_at op g m s ≡ g (get_or hs k.i 0) k.place.position
      only op adds zero-r g =
          total_on m k.i k.alone.has k.low op adds g s k.place
          ∙ ap (λ (x : ℕ). op (g (get_or hs k.i 0) k.place.position) x) (total-none op adds (λ h. share (slots h) s (g h)) (without m k.i) hs 0 (nothing g))
          ∙ zero-r _
