-- What a C program may rely on, with fingerprints of w bits, that lends the lengths which the header offers for its number of keys
-- (layout/specs/Lengths.antt) and 20 bytes for the descriptor, and gives a limit of 1 to `max_attempts`: a build names the first allowed attempt without
-- a stuck set, or it tells 65,536 + 5, and two keys are equal, or 65,536 + 6, and every allowed attempt has a stuck set. Assumes nothing.
use Rattle.std.specs.Prelude.{◌≡◌, refl, List, ℕ, ◌+◌, ◌≤◌, length}
use Rattle.std.proofs.Common.{le_refl, le-ltb}
use Rattle.answers.specs.Answers.{Answer, gives}
use Rattle.answers.specs.Checks.{done}
use Rattle.capacity.specs.Capacity.{max_keys}
use Rattle.descriptor.specs.Descriptor.{descriptor_size}
use Rattle.layout.specs.Layout.{max_slots, max_starts}
use Rattle.layout.specs.Lengths.{Enough}
use Rattle.layout.proofs.Lengths.{lengths}
use Rattle.repeats.specs.Repeats.{Twice}
use Rattle.stuck.specs.FirstFree.{First, AllStuck}
use Rattle.fuse.specs.Attempts.{max_attempts, slots_at}
use Rattle.fuse.specs.Memory.{Memory, checked}
use Rattle.fuse.specs.Build.{Success, build_of}
use Rattle.fuse.specs.EnoughRoom.{Ending, repeated, all_stuck, succeeds, enough_room, three_endings}
use Rattle.c_api.specs.BuildTold.{BuildTold, refusal_code, told_built, told_build}
use Rattle.c_api.specs.Reliable.{demanded}

-- buffers of at least these lengths: a where an element belongs to a slot, n positions, n + 1 in order, p bucket starts, and the descriptor's 20 bytes
pub record Lent (n a p : ℕ) (before : Memory) (room : List ℕ) : Type 0 where
  pub fingerprints : a ≤ length before.fingerprints
  pub lone : a ≤ length before.lone
  pub counts : a ≤ length before.counts
  pub sums : a ≤ length before.sums
  pub positions : n ≤ length before.positions
  pub order : n + 1 ≤ length before.order
  pub starts : p ≤ length before.starts
  pub descriptor : descriptor_size ≤ length room

-- what the build then tells: the first allowed attempt without a stuck set, 5 because two keys are equal, or 6 because, with no two equal, every
-- allowed attempt has one
pub data OneOfThree (keys : List ℕ) (limit : ℕ) : (code : ℕ) → Type 0 where
  attempt : {code : ℕ} → First (slots_at keys) 1 limit code → OneOfThree keys limit code
  two_equal : Twice keys → OneOfThree keys limit (refusal_code 5)
  each_stuck : (¬ Twice keys) → AllStuck (slots_at keys) 1 limit → OneOfThree keys limit (refusal_code 6)

module _ (w : ℕ) (keys : List ℕ) (limit : ℕ) (before : Memory) (room : List ℕ) where
  built_one_of_three : (answer : Answer Success) → (build_of w keys limit before).answer ≡ answer → Ending answer
      → OneOfThree keys limit (told_built answer (build_of w keys limit before).leaves room).code
  built_one_of_three answer e repeated = two_equal ((demanded w keys limit before room).five.0 e).1
  built_one_of_three answer e all_stuck = let six = ((demanded w keys limit before room).six.0 e).1 in each_stuck six.0 six.1
  built_one_of_three answer e (succeeds s) = attempt ((demanded w keys limit before room).names_the_first s e)

  pub one_of_three : {hi a p : ℕ} → Enough hi a p → length keys ≤ hi → hi ≤ max_keys → 1 ≤ limit → limit ≤ max_attempts → Lent (length keys) a p before room
      → (t : BuildTold) → t ≡ told_build w keys limit before room → OneOfThree keys limit t.code
  one_of_three enough to few some most lent t e =
      let passes : checked (length keys) limit before ≡ gives done
      = enough_room (length keys) limit _ _ _ _ _ _ _ enough to few some most lent.fingerprints lent.lone lent.counts lent.sums
      lent.positions lent.order lent.starts in
      rw (e, le-ltb (length room) descriptor_size lent.descriptor) (built_one_of_three _ refl (three_endings w keys limit 1 limit before passes))

  -- the header's greatest lengths serve every list
  pub one_of_three_with_most : length keys ≤ max_keys → 1 ≤ limit → limit ≤ max_attempts → Lent (length keys) max_slots max_starts before room
      → (t : BuildTold) → t ≡ told_build w keys limit before room → OneOfThree keys limit t.code
  one_of_three_with_most few = one_of_three lengths.up_to_most few (le_refl max_keys)
