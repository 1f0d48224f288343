use Rattle.std.proofs.Common.{arith, ap, ◌∙◌, ◌≡◌, ◌+◌, ◌++◌, ◌∷◌, [], length, length-append}
use Rattle.beet_server.specs.Rows.{Rows}
use Rattle.beet_server.proofs.RowFacts.{rows-more, ends-more, length-shown}
use Rattle.beet_server.proofs.rows.Rows.push.Goals as goal

pub push_reserved-requires : goal.push_reserved-requires
push_reserved-requires c =
    let count = length-shown c.args.self.now c.self.inside.items.items c.self.inside.ends.items _ _ _ c.self.view_is in
    let room = ap (λ (v : Rows). v.ends_room) c.self.view_is in
    omega (arith, count, room, c.requires.ends)

pub invariant_of-self : goal.invariant_of-self
invariant_of-self c =
    let n : c.len-end.result ≡ length c.self.inside.items.items + length c.args.row.now =
    omega (arith, c.len-end.ensures, ap length c.append_all.ensures.items, length-append c.self.inside.items.items c.args.row.now) in
    rw (c.push_reserved.ensures.items, n, c.append_all.ensures.items, length-append c.self.inside.items.items c.args.row.now)
    (ends-more 0 c.self.inside.ends.items (length c.self.inside.items.items) (length c.args.row.now) c.self.invariant)

pub returns-clause-rows : goal.returns-clause-rows
returns-clause-rows c =
    let n : c.len-end.result ≡ length c.self.inside.items.items + length c.args.row.now =
    omega (arith, c.len-end.ensures, ap length c.append_all.ensures.items, length-append c.self.inside.items.items c.args.row.now) in
    rw (c.push_reserved.ensures.items, n, c.append_all.ensures.items)
    (rows-more c.self.inside.items.items c.args.row.now 0 c.self.inside.ends.items c.self.invariant)
    ∙ ap (λ (v : Rows). v.rows ++ c.args.row.now ∷ []) c.self.view_is
