-- `peel::sums::Sums::count_keys` meets its contract: after i turns the buffers hold the sums of the first i keys' hashes. Assumes nothing.
use Rattle.std.proofs.Common.{◌≡◌, sym, ◌∙◌, arith, get_or}
use Rattle.arith.specs.Murmur3.{hash_of}
use Rattle.peel.specs.SlotsApart.{slots_apart, hashes_length, hashes_at}
use Rattle.peel.proofs.SumsGrow.{count_start, hashes_long, counts_few, count_step, count_end}
use Rattle.peel.proofs.sums.Sums.count_keys.Goals as goal

pub loop-key-init : goal.loop-key-init
loop-key-init c = count_start c.requires.counts_clear c.requires.hashes_clear

pub add_key-requires : goal.add_key-requires
add_key-requires c =
    let k = c.loop-key.invariant in
    record {
      layout = rw k.same.counts_length c.requires.layout;
      same = hashes_long k ∙ sym k.same.counts_length;
      few = λ slot. omega (arith, counts_few k slot, c.requires.few, c.loop-key-test.true);
    }

pub loop-key-preserved : goal.loop-key-preserved
loop-key-preserved c =
    let keys = c.args.keys.now in
    let seed = c.args.seed in
    let i = c.loop-key.key-index in
    let hashed : c.mix.result ≡ hash_of (get_or keys i 0) seed = c.mix.ensures in
    count_step c.loop-key.invariant (omega (arith, c.loop-key-test.true, hashes_length seed keys))
    (hashed ∙ sym (hashes_at seed keys i c.loop-key-test.true)) (slots_apart c.requires.layout _ (omega arith)) c.add_key.ensures.same
    c.add_key.ensures.sums

pub returns-clause-sums : goal.returns-clause-sums
returns-clause-sums c = count_end c.loop-key.invariant (omega (arith, c.loop-key-test.false, hashes_length c.args.seed c.args.keys.now))
