-- The words of a line, one by one: blank bytes in front are passed, and a word ends at the next blank byte. Assumes nothing.
use Rattle.std.proofs.Common.{◌≡◌, refl, ◌∙◌, ℕ, ◌+◌, ◌≤◌, ◌<◌, Bool, true, false, cond, not, List, [], ◌∷◌, length, take, drop, ltb, arith, ltb-true, ltb-false, add_comm, add-one}
use Rattle.std.specs.Prelude.{Option, Some, None, unwrap_or}
use Rattle.std.specs.List.{position, position_or_len}
use Rattle.std.proofs.Math.ListN.{drop_of_length-le}
use Rattle.std.proofs.lemmas.List.Sums.{prefix_len-le-length}
use Rattle.due_text.specs.Cut.{cut, in_front, blank?, without_empty, words_of}

abbrev pub solid? : ℕ → Bool
solid? byte = not (blank? byte)

-- how many bytes stand before the first word, and how many before the first blank
abbrev before_word : List ℕ → ℕ
before_word text = position_or_len solid? text

abbrev before_blank : List ℕ → ℕ
before_blank text = position_or_len blank? text

-- blank bytes in front of the words do not count
past_blanks : (text : List ℕ) → words_of text ≡ words_of (drop (before_word text) text)
unfolding cut
past_blanks [] = refl
past_blanks (byte ∷ rest) = by (blank? byte) refl (past_blanks rest)
  where
    by : (b : Bool) → blank? byte ≡ b → words_of rest ≡ words_of (drop (before_word rest) rest)
        → words_of (byte ∷ rest) ≡ words_of (drop (cond (not (not b)) (1 + before_word rest) 0) (byte ∷ rest))
    by true t e = rw (add_comm 1 (before_word rest), add-one, t) e
    by false t e = refl

no_words : words_of [] ≡ []
unfolding cut
no_words = refl

longer : (byte : ℕ) (pieces : List (List ℕ)) {next : ℕ} {word : List ℕ} {more : List (List ℕ)}
    → without_empty (in_front next pieces) ≡ (next ∷ word) ∷ more → without_empty (in_front byte (in_front next pieces)) ≡ (byte ∷ next ∷ word) ∷ more
longer byte [] e = cc
longer byte (piece ∷ pieces) e = cc

-- a word that begins with this byte goes on to the first blank
begun : (byte : ℕ) (text : List ℕ) → without_empty (in_front byte (cut blank? text)) ≡ (byte ∷ take (before_blank text) text) ∷ words_of (drop (before_blank text) text)
unfolding cut
begun byte [] = refl
begun byte (next ∷ rest) = by (blank? next) refl (begun next rest)
  where
    by : (b : Bool) → blank? next ≡ b
        → without_empty (in_front next (cut blank? rest)) ≡ (next ∷ take (before_blank rest) rest) ∷ words_of (drop (before_blank rest) rest)
        → let k = cond (not b) (1 + before_blank rest) 0 in
        without_empty (in_front byte (cond b ([] ∷ cut blank? rest) (in_front next (cut blank? rest)))) ≡ (byte ∷ take k (next ∷ rest)) ∷ words_of (drop k (next ∷ rest))
    by true t e = rw t refl
    by false t e = rw (add_comm 1 (before_blank rest), add-one) (longer byte (cut blank? rest) e)

one_word : (text : List ℕ) → before_word text < length text
    → let here = drop (before_word text) text in
    words_of here ≡ take (before_blank here) here ∷ words_of (drop (before_blank here) here)
unfolding cut
one_word [] h = absurd (omega arith)
one_word (byte ∷ rest) h = by (blank? byte) refl (one_word rest) h
  where
    by : (b : Bool) → blank? byte ≡ b
        → (before_word rest < length rest
        → let here = drop (before_word rest) rest in
        words_of here ≡ take (before_blank here) here ∷ words_of (drop (before_blank here) here))
        → cond (not (not b)) (1 + before_word rest) 0 < length (byte ∷ rest)
        → let here = drop (cond (not (not b)) (1 + before_word rest) 0) (byte ∷ rest) in
        words_of here ≡ take (before_blank here) here ∷ words_of (drop (before_blank here) here)
    by true t e h = rw (add_comm 1 (before_word rest), add-one) (e (omega arith))
    by false t e h = rw (t, add_comm 1 (before_blank rest), add-one) (begun byte rest)

-- how far a text goes: to the first byte that passes, or to its end
pub end_of : (test : ℕ → Bool) (text : List ℕ) {found : Option ℕ} {end : ℕ} → found ≡ position test text → end ≡ unwrap_or found (length text) → end ≡ position_or_len test text
end_of test text p e = rw (e, p) (by (ltb (position_or_len test text) (length text)) refl)
  where
    by : (short : Bool) → ltb (position_or_len test text) (length text) ≡ short
        → unwrap_or (cond short (Some (position_or_len test text)) None) (length text) ≡ position_or_len test text
    by true t = refl
    by false t = omega (arith, ltb-false (position_or_len test text) (length text) t, prefix_len-le-length (λ x. not (test x)) text)

pub none_left : (text : List ℕ) → position solid? text ≡ None → words_of text ≡ []
none_left text p = by (ltb (before_word text) (length text)) refl p
  where
    by : (short : Bool) → ltb (before_word text) (length text) ≡ short → cond short (Some (before_word text)) None ≡ None → words_of text ≡ []
    by true t e = cc
    by false t e =
        let h : length text ≤ before_word text = ltb-false (before_word text) (length text) t in
        past_blanks text ∙ rw (drop_of_length-le text {i = before_word text} h) no_words

pub one_given : (text : List ℕ) {start end : ℕ} {rest : List ℕ} → position solid? text ≡ Some start → rest ≡ drop start text → end ≡ before_blank rest
    → words_of text ≡ take end rest ∷ words_of (drop end rest)
one_given text {start} {end} {rest} p r e = by (ltb (before_word text) (length text)) refl p
  where
    by : (short : Bool) → ltb (before_word text) (length text) ≡ short → cond short (Some (before_word text)) None ≡ Some start
        → words_of text ≡ take end rest ∷ words_of (drop end rest)
    by true t s =
        let h : before_word text < length text = ltb-true (before_word text) (length text) t in
        let is : before_word text ≡ start = cc in
        rw (e, r, ← is) (past_blanks text ∙ one_word text h)
    by false t s = cc
