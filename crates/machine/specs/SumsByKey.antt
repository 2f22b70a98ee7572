-- The sums are built key by key: adding a key to the sums of some keys gives the sums of these and the new one. Assumes nothing.
use Rattle.std.specs.Prelude.{◌≡◌, refl, ◌≢◌, Bool, true, false, List, [], ◌∷◌, ◌++◌, get_or, replicate}
use Rattle.std.proofs.Common.{sym, ◌∙◌, subst, arith}
use Rattle.std.proofs.Math.Path.{ap}
use Prim.Native.Nat.{ℕ, zero, suc, ◌+◌, ◌<◌}
use Rattle.std.specs.Int.Bits.{bit_xor, xor_zero_r, xor_comm}
use Rattle.std.proofs.Math.Dec.{T}
use Rattle.stuck.specs.Stuck.{Slots, slot_at, touches}
use Rattle.stuck.specs.Touching.{touches-own}
use Rattle.stuck.specs.Ring.{Apart}
use Rattle.reorder.specs.Reordered.{Reordered, same, swap, under, then}
use Rattle.machine.specs.Machine.{Sums, share, total_all, table, totals, sums_of, change_at}
use Rattle.machine.specs.Share.{share_off, Place, place_of}
use Rattle.machine.specs.Known.{known_at, moved, Long, sums_same, changed_long, changed_here, changed_other}
use Rattle.machine.specs.Order.{sums_reordered}
use Rattle.machine.specs.Start.{table_at, sums_long}

-- ---- no key: nothing is known

table-zero : (at n : ℕ) → table at n (λ s. 0) ≡ replicate n 0
unfolding table
table-zero at zero = refl
table-zero at (suc n) = ap (λ (l : List ℕ). 0 ∷ l) (table-zero (suc at) n)

pub sums_none : (slots : ℕ → Slots) (n : ℕ) → sums_of slots n [] ≡ record { counts = replicate n 0; hashes = replicate n 0; positions = replicate n 0 }
unfolding sums_of total_all
sums_none slots n = λ i. record { counts = table-zero 0 n i; hashes = table-zero 0 n i; positions = table-zero 0 n i }

-- ---- a key is added

-- one more key touches slot s, at position q
unfoldable pub touch : (h q s : ℕ) → Sums → Sums
touch h q s a = change_at (λ c. c + 1) h q s a

-- the key with hash h and slots t is counted
unfoldable pub add_key : (t : Slots) (h : ℕ) → Sums → Sums
add_key t h a = touch h 2 t.s2 (touch h 1 t.s1 (touch h 0 t.s0 a))

module _ (h q s : ℕ) (a : Sums) where
  pub touch_long : (n : ℕ) → Long n a → Long n (touch h q s a)
  unfolding touch
  touch_long n long = changed_long (λ c. c + 1) h q s a n long

  pub touch_here : (n : ℕ) → Long n a → s < n → known_at (touch h q s a) s ≡ moved (λ c. c + 1) h q (known_at a s)
  unfolding touch
  touch_here n long lt = changed_here (λ c. c + 1) h q s a n long lt

  pub touch_other : (x : ℕ) → x ≢ s → known_at (touch h q s a) x ≡ known_at a x
  unfolding touch
  touch_other x ne = changed_other (λ c. c + 1) h q s a x ne

module _ (n : ℕ) (t : Slots) (h : ℕ) (a : Sums) (apart : Apart n t) (long : Long n a) where
  abbrev one : Sums
  one = touch h 0 t.s0 a

  abbrev two : Sums
  two = touch h 1 t.s1 one

  one_long : Long n one
  one_long = touch_long h 0 t.s0 a n long

  two_long : Long n two
  two_long = touch_long h 1 t.s1 one n one_long

  add_long : Long n (add_key t h a)
  unfolding add_key
  add_long = touch_long h 2 t.s2 two n two_long

  add_off : (s : ℕ) → ¬ T (touches t s) → known_at (add_key t h a) s ≡ known_at a s
  unfolding add_key
  add_off s off = touch_other h 2 t.s2 two s (away 2) ∙ touch_other h 1 t.s1 one s (away 1) ∙ touch_other h 0 t.s0 a s (away 0)
    where
      away : (q : ℕ) → s ≢ slot_at t q
      away q e = off (subst (λ (x : ℕ). T (touches t x)) (sym e) (touches-own t q))

  add_at : (q : ℕ) → q < 3 → known_at (add_key t h a) (slot_at t q) ≡ moved (λ c. c + 1) h q (known_at a (slot_at t q))
  unfolding add_key
  add_at zero lt =
      touch_other h 2 t.s2 two t.s0 apart.ne02 ∙ touch_other h 1 t.s1 one t.s0 apart.ne01
      ∙ touch_here h 0 t.s0 a n long apart.in0
  add_at (suc zero) lt =
      touch_other h 2 t.s2 two t.s1 apart.ne12 ∙ touch_here h 1 t.s1 one n one_long apart.in1
      ∙ ap (moved (λ c. c + 1) h 1) (touch_other h 0 t.s0 a t.s1 (λ e. apart.ne01 (sym e)))
  add_at (suc (suc zero)) lt =
      touch_here h 2 t.s2 two n two_long apart.in2
      ∙ ap (moved (λ c. c + 1) h 2)
      (touch_other h 1 t.s1 one t.s2 (λ e. apart.ne12 (sym e)) ∙ touch_other h 0 t.s0 a t.s2 (λ e. apart.ne02 (sym e)))
  add_at (suc (suc (suc q))) lt = absurd (omega arith)

-- ---- the sums with one more key

module _ (slots : ℕ → Slots) (n : ℕ) (hs : List ℕ) (h : ℕ) (apart : Apart n (slots h)) where
  -- each of the three lists holds totals, to which the new key gives its share
  cons_at : (op : ℕ → ℕ → ℕ) → ((x y : ℕ) → op x y ≡ op y x) → (g : ℕ → ℕ → ℕ) (s : ℕ) → s < n
      → get_or (totals slots n op g (h ∷ hs)) s 0 ≡ op (get_or (totals slots n op g hs) s 0) (share (slots h) s (g h))
  unfolding total_all
  cons_at op co g s lt =
      table_at n (λ s. total_all op (λ k. share (slots k) s (g k)) (h ∷ hs)) s lt ∙ co _ _
      ∙ ap (λ (x : ℕ). op x (share (slots h) s (g h))) (sym (table_at n (λ s. total_all op (λ k. share (slots k) s (g k)) hs) s lt))

  cons_known : (s : ℕ) → s < n
      → known_at (sums_of slots n (h ∷ hs)) s
      ≡ record {
        count = (known_at (sums_of slots n hs) s).count + share (slots h) s (λ q. 1);
        hash = bit_xor (known_at (sums_of slots n hs) s).hash (share (slots h) s (λ q. h));
        position = bit_xor (known_at (sums_of slots n hs) s).position (share (slots h) s (λ q. q));
      }
  unfolding sums_of
  cons_known s lt = λ i. record {
    count = cons_at ◌+◌ (λ x y. omega arith) (λ k q. 1) s lt i;
    hash = cons_at bit_xor xor_comm (λ k q. k) s lt i;
    position = cons_at bit_xor xor_comm (λ k q. q) s lt i;
  }

  pub sums_cons : add_key (slots h) h (sums_of slots n hs) ≡ sums_of slots n (h ∷ hs)
  sums_cons =
      sums_same n _ _ (add_long n (slots h) h old apart (sums_long slots hs n)) (sums_long slots (h ∷ hs) n)
      (λ s lt. by s lt (touches (slots h) s) refl)
    where
      old : Sums
      old = sums_of slots n hs

      on : (s : ℕ) → s < n → Place (slots h) s → known_at (add_key (slots h) h old) s ≡ known_at (sums_of slots n (h ∷ hs)) s
      on s lt pl =
          subst (λ (x : ℕ). known_at (add_key (slots h) h old) x ≡ moved (λ c. c + 1) h pl.position (known_at old x)) pl.here
          (add_at n (slots h) h old apart (sums_long slots hs n) pl.position pl.small)
          ∙ sym (cons_known s lt ∙ rw (pl.gives (λ q. 1), pl.gives (λ q. h), pl.gives (λ q. q)))

      plus_zero : (x y : ℕ) → y ≡ 0 → x ≡ x + y
      plus_zero x y e = omega arith

      xor-zero : (x y : ℕ) → y ≡ 0 → x ≡ bit_xor x y
      xor-zero x y e = rw e (sym (xor_zero_r x))

      off : (s : ℕ) → s < n → ¬ T (touches (slots h) s) → known_at (add_key (slots h) h old) s ≡ known_at (sums_of slots n (h ∷ hs)) s
      off s lt away =
          add_off n (slots h) h old apart (sums_long slots hs n) s away ∙ (λ i. record {
            count = plus_zero (known_at old s).count _ (share_off (slots h) s (λ q. 1) away) i;
            hash = xor-zero (known_at old s).hash _ (share_off (slots h) s (λ q. h) away) i;
            position = xor-zero (known_at old s).position _ (share_off (slots h) s (λ q. q) away) i;
          }) ∙ sym (cons_known s lt)

      by : (s : ℕ) → s < n → (b : Bool) → touches (slots h) s ≡ b → known_at (add_key (slots h) h old) s ≡ known_at (sums_of slots n (h ∷ hs)) s
      by s lt true e = on s lt (place_of (slots h) s (rw e tt))
      by s lt false e = off s lt (λ x. subst T e x)

  last_first : (l : List ℕ) → Reordered (h ∷ l) (l ++ (h ∷ []))
  last_first [] = same
  last_first (x ∷ l) = then (swap h x) (under x (last_first l))

  -- one more key at the end
  pub sums_snoc : add_key (slots h) h (sums_of slots n hs) ≡ sums_of slots n (hs ++ (h ∷ []))
  sums_snoc = sums_cons ∙ sums_reordered slots n (last_first hs)
