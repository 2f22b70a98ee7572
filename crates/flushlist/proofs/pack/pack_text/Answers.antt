-- `flushlist::pack::pack_text`: the keys that were read have their places in the room. Assumes nothing.
use Rattle.std.proofs.Common.{sym, length-take-le}
use Rattle.due_text.specs.Room.{within_room}
use Rattle.flushlist.proofs.pack.pack_text.Goals as goal

pub slice_bounds-room-end : goal.slice_bounds-room-end
slice_bounds-room-end g c = within_room _ _ c.in-Ok.ensures

pub slice_bounds-pack_keys-end : goal.slice_bounds-pack_keys-end
slice_bounds-pack_keys-end g c = sym (length-take-le _ _ (within_room _ _ c.in-Ok.ensures))
