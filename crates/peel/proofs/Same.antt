-- The same buffers are lent, with no step and with one step after another. Assumes nothing.
use Rattle.std.proofs.Common.{refl, ◌∙◌}
use Rattle.peel.specs.declared.sums.Sums.{Sums}
use Rattle.peel.specs.declared.stack.Stack.{Stack}
use Rattle.peel.specs.declared.taken.Taken.{Taken}
use Rattle.peel.specs.Held.{SameSums, SameStack, SameTaken}

pub sums_stay : {a : Sums} → SameSums a a
sums_stay = record { counts = refl; hashes = refl; counts_length = refl; hashes_length = refl }

pub sums_then : {a b c : Sums} → SameSums a b → SameSums b c → SameSums a c
sums_then one two =
    record {
      counts = two.counts ∙ one.counts;
      hashes = two.hashes ∙ one.hashes;
      counts_length = two.counts_length ∙ one.counts_length;
      hashes_length = two.hashes_length ∙ one.hashes_length;
    }

pub stack_stays : {a : Stack} → SameStack a a
stack_stays = record { slots = refl; slots_length = refl }

pub stack_then : {a b c : Stack} → SameStack a b → SameStack b c → SameStack a c
stack_then one two = record { slots = two.slots ∙ one.slots; slots_length = two.slots_length ∙ one.slots_length }

pub lists_stay : {a : Taken} → SameTaken a a
lists_stay = record { order = refl; positions = refl; order_length = refl; positions_length = refl }

pub lists_then : {a b c : Taken} → SameTaken a b → SameTaken b c → SameTaken a c
lists_then one two =
    record {
      order = two.order ∙ one.order;
      positions = two.positions ∙ one.positions;
      order_length = two.order_length ∙ one.order_length;
      positions_length = two.positions_length ∙ one.positions_length;
    }
