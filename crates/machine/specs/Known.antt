-- What one slot knows, as one value, and how it changes when a key comes to a slot or leaves one. Assumes nothing.
use Rattle.std.specs.Prelude.{◌≡◌, ◌≢◌, List, ℕ, ◌<◌, length, get_or}
use Rattle.std.proofs.Common.{sym, ap, ◌∙◌, arith, length-set, get_or-set_other, get_or-set_same, ext_get_or}
use Rattle.std.specs.Int.Bits.{bit_xor}
use Rattle.machine.specs.Machine.{Sums, change, change_at}

pub record Known : Type 0 where
  pub count : ℕ
  pub hash : ℕ
  pub position : ℕ

-- what slot s knows
abbrev pub known_at : Sums → ℕ → Known
known_at a s = record { count = get_or a.counts s 0; hash = get_or a.hashes s 0; position = get_or a.positions s 0 }

-- a key with hash h comes or leaves, at its position q
abbrev pub moved : (ℕ → ℕ) → ℕ → ℕ → Known → Known
moved f h q k = record { count = f k.count; hash = bit_xor k.hash h; position = bit_xor k.position q }

-- the sums are of n slots
pub record Long (n : ℕ) (a : Sums) : Type 0 where
  pub in_counts : length a.counts ≡ n
  pub in_hashes : length a.hashes ≡ n
  pub in_positions : length a.positions ≡ n

same_list : (n : ℕ) (l k : List ℕ) → length l ≡ n → length k ≡ n → ((s : ℕ) → s < n → get_or l s 0 ≡ get_or k s 0) → l ≡ k
same_list n l k long-l long-k e = ext_get_or 0 l k (long-l ∙ sym long-k) (λ s lt. e s (omega arith))

-- sums that know the same are the same
pub sums_same : (n : ℕ) (a b : Sums) → Long n a → Long n b → ((s : ℕ) → s < n → known_at a s ≡ known_at b s) → a ≡ b
sums_same n a b la lb e = λ i. record {
  counts = same_list n a.counts b.counts la.in_counts lb.in_counts (λ s lt. ap (λ (k : Known). k.count) (e s lt)) i;
  hashes = same_list n a.hashes b.hashes la.in_hashes lb.in_hashes (λ s lt. ap (λ (k : Known). k.hash) (e s lt)) i;
  positions = same_list n a.positions b.positions la.in_positions lb.in_positions (λ s lt. ap (λ (k : Known). k.position) (e s lt)) i;
}

-- ---- one list

pub change-length : (f : ℕ → ℕ) (s : ℕ) (l : List ℕ) → length (change f s l) ≡ length l
unfolding change
change-length f s l = length-set l s (f (get_or l s 0))

pub change_here : (f : ℕ → ℕ) (s : ℕ) (l : List ℕ) → s < length l → get_or (change f s l) s 0 ≡ f (get_or l s 0)
unfolding change
change_here f s l h = get_or-set_same l s (f (get_or l s 0)) 0 h

pub change_other : (f : ℕ → ℕ) (s : ℕ) (l : List ℕ) (x : ℕ) → x ≢ s → get_or (change f s l) x 0 ≡ get_or l x 0
unfolding change
change_other f s l x ne = get_or-set_other l s x (f (get_or l s 0)) 0 ne

-- ---- the three lists

module _ (f : ℕ → ℕ) (h q s : ℕ) (a : Sums) where
  pub changed_long : (n : ℕ) → Long n a → Long n (change_at f h q s a)
  unfolding change_at
  changed_long n long =
      record {
        in_counts = change-length f s a.counts ∙ long.in_counts;
        in_hashes = change-length (λ x. bit_xor x h) s a.hashes ∙ long.in_hashes;
        in_positions = change-length (λ x. bit_xor x q) s a.positions ∙ long.in_positions;
      }

  pub changed_here : (n : ℕ) → Long n a → s < n → known_at (change_at f h q s a) s ≡ moved f h q (known_at a s)
  unfolding change_at
  changed_here n long lt = λ i. record {
    count = change_here f s a.counts (omega (arith, long.in_counts)) i;
    hash = change_here (λ x. bit_xor x h) s a.hashes (omega (arith, long.in_hashes)) i;
    position = change_here (λ x. bit_xor x q) s a.positions (omega (arith, long.in_positions)) i;
  }

  pub changed_other : (x : ℕ) → x ≢ s → known_at (change_at f h q s a) x ≡ known_at a x
  unfolding change_at
  changed_other x ne = λ i. record {
    count = change_other f s a.counts x ne i;
    hash = change_other (λ y. bit_xor y h) s a.hashes x ne i;
    position = change_other (λ y. bit_xor y q) s a.positions x ne i;
  }
