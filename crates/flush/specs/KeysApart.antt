-- Different triples of unit, valve and hour give different keys (document 01, "Flush key"; document 02, wish 3). The hour is a signed
-- number. Assumes nothing.
use Rattle.std.specs.Prelude.{◌≡◌, ℕ, ◌^◌, ◌≤◌, ◌<◌, ℤ, pos, negsuc}
use Rattle.std.proofs.Common.{sym, ap, ◌∙◌, arith}
use Rattle.std.specs.Int.Signed.{mag}
use Rattle.answers.specs.Answers.{gives}
use Rattle.flush.specs.Floor.{modulo}
use Rattle.flush.specs.FloorLaws.{is_modulo}
use Rattle.flush.specs.FlushKey.{hour_of, last_hour, hours_held, key_of, key_at_hour, flush_key_of}
use Rattle.flush.specs.Hours.{good_small, given_good}

-- the three numbers can be read off the key
key_apart : (u v h u' v' h' : ℕ) → v < 2 ^ 8 → h < hours_held → v' < 2 ^ 8 → h' < hours_held
    → key_of u v h ≡ key_of u' v' h' → (u ≡ u') × (v ≡ v') × (h ≡ h')
key_apart u v h u' v' h' hv hh hv' hh' e = omega arith

-- and the hour off what the key holds of it: the good hours from zero on are in its lower half, those below zero in its upper
held_apart : (h h' : ℤ) → mag h ≤ mag last_hour → mag h' ≤ mag last_hour → modulo h hours_held ≡ modulo h' hours_held → h ≡ h'
held_apart (pos n) (pos m) k k' e = ap pos (omega arith)
held_apart (pos n) (negsuc m) k k' e = absurd (omega arith)
held_apart (negsuc n) (pos m) k k' e = absurd (omega arith)
held_apart (negsuc n) (negsuc m) k k' e = ap negsuc (omega arith)

pub held_below : (h : ℤ) → modulo h hours_held < hours_held
held_below h = (is_modulo h hours_held (omega arith)).below

pub different_keys : (u v : ℕ) (h : ℤ) (u' v' : ℕ) (h' : ℤ) (key : ℕ) → v < 2 ^ 8 → v' < 2 ^ 8
    → key_at_hour u v h ≡ gives key → key_at_hour u' v' h' ≡ gives key → (u ≡ u') × (v ≡ v') × (h ≡ h')
different_keys u v h u' v' h' key hv hv' e e' =
    let a = given_good u v h e in
    let b = given_good u' v' h' e' in
    let p = key_apart u v (modulo h hours_held) u' v' (modulo h' hours_held) hv (held_below h) hv' (held_below h') (a.1 ∙ sym b.1) in
    (p.0, p.1, held_apart h h' (good_small h a.0) (good_small h' b.0) p.2)

-- two flushes with one key are of one unit, one valve and one hour
pub different_flushes : (u v : ℕ) (s : ℤ) (u' v' : ℕ) (s' : ℤ) (key : ℕ) → v < 2 ^ 8 → v' < 2 ^ 8
    → flush_key_of u v s ≡ gives key → flush_key_of u' v' s' ≡ gives key → (u ≡ u') × (v ≡ v') × (hour_of s ≡ hour_of s')
unfolding flush_key_of
different_flushes u v s u' v' s' key = different_keys u v (hour_of s) u' v' (hour_of s') key
