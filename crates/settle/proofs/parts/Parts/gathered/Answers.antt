-- `settle::parts::Parts::gathered` meets its contract. Assumes nothing.
use Rattle.settle.proofs.Gathers.{gather_within, first-room, second_room, third_room, gather_all}
use Rattle.settle.proofs.parts.Parts.gathered.Goals as goal

pub store_at-first-requires : goal.store_at-first-requires
store_at-first-requires c =
    let g = c.requires in
    (g.present.around.good, g.present.front_passes, first-room g)

pub store_hits-second-requires : goal.store_hits-second-requires
store_hits-second-requires c =
    let g = c.requires in
    (gather_within g, g.counted, second_room g c.store_at-first.ensures)

pub store_at-requires : goal.store_at-requires
store_at-requires c =
    let g = c.requires in (
      g.present.around.good,
      g.present.back_passes,
      third_room g c.store_at-first.ensures c.store_hits-second.ensures,
    )

pub returns : goal.returns
returns c =
    let g = c.requires in
    gather_all g c.store_at-first.ensures
    c.store_hits-second.ensures c.store_at.ensures
