use Rattle.std.proofs.Common.{◌*◌, length, length-append, ap, ◌∙◌, arith}
use Rattle.beet_gates.specs.Scripts.{size_of}
use Rattle.beet_server.proofs.parts.absorb.Goals as goal

pub append_all-requires : goal.append_all-requires
append_all-requires g c =
    let all = g.met.G.Given.counted c.args.given.now c.requires.even in
    let many = ap (λ n. n * g.row.SERVERS) (c.requires.count ∙ ap size_of c.in-Deal.is) in
    let room = rw c.in-Deal.is at c.requires.wires_room in
    omega (arith, all, many, room)

pub returns-in-Deal-clause-wires_count : goal.returns-in-Deal-clause-wires_count
returns-in-Deal-clause-wires_count g c =
    let all = g.met.G.Given.counted c.args.given.now c.requires.even in
    let many = ap (λ n. n * g.row.SERVERS) (c.requires.count ∙ ap size_of c.in-Deal.is) in
    rw c.in-Deal.is (omega (
      arith,
      ap length c.append_all.ensures.items,
      length-append c.args.wires.now.items (g.G.Given.all c.args.given.now),
      all,
      many,
    ))
