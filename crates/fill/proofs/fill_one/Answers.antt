-- `fill::fill_one` meets its contract: what is xored in twice is gone. Assumes nothing.
use Rattle.std.proofs.Common.{arith, rules, map}
use Rattle.std.proofs.lemmas.Grind.{common_steps}
use Rattle.std.proofs.lemmas.List.{map-set, get_or-map}
use Rattle.arith.specs.XorAt.{each_below}
use Rattle.fill.proofs.OneKey.{one_key}
use Rattle.fill.proofs.fill_one.Goals as goal

pub left_over-left-requires : goal.left_over-left-requires
left_over-left-requires g c =
    let key = one_key c.requires.0 c.requires.1 (omega arith) c.slots-three.ensures in
    each_below _ _ (grind (arith, common_steps)) (grind (arith, common_steps)) (grind (arith, common_steps)) (grind (arith, common_steps))

pub offset_bounds-fingerprints-at : goal.offset_bounds-fingerprints-at
offset_bounds-fingerprints-at g c =
    let inside = (one_key c.requires.0 c.requires.1 (omega arith) c.slots-three.ensures).inside_own in search rules

pub bounds-fingerprints-at : goal.bounds-fingerprints-at
bounds-fingerprints-at g c = (one_key c.requires.0 c.requires.1 (omega arith) c.slots-three.ensures).inside_own

pub offset_bounds-fingerprints-at-2 : goal.offset_bounds-fingerprints-at-2
offset_bounds-fingerprints-at-2 g c =
    let inside = (one_key c.requires.0 c.requires.1 (omega arith) c.slots-three.ensures).inside_own in search rules

pub bounds-fingerprints-at-2 : goal.bounds-fingerprints-at-2
bounds-fingerprints-at-2 g c = (one_key c.requires.0 c.requires.1 (omega arith) c.slots-three.ensures).inside_own

pub returns : goal.returns
returns g c =
    let key = one_key c.requires.0 c.requires.1 (omega arith) c.slots-three.ensures in
    let stored = key.filled _ _ (map (g.F.Fingerprint.bits) c.args.fingerprints.now) c.of_hash.ensures in
    grind (arith, map-set {A = g.row.F.Denot}, get_or-map, g.met.F.Fingerprint.xor_bits)
