use Rattle.std.proofs.Common.{refl}
use Rattle.std.proofs.lemmas.Result.{IfErr-weaker}
use Rattle.beet_field.specs.Trio.{member}
use Rattle.beet_auction_map.proofs.Disagreeing.{agree-alone, agree-one, refuses-one}
use Rattle.beet_auction_map.proofs.agreeing.agreement.Goals as goal

pub returns-clause-agreed : goal.returns-clause-agreed
returns-clause-agreed c =
    let me = c.args.me in
    let only = c.only.ensures in
    let agreed = c.agreement.ensures.agreed in (
      λ ok. agree-one (member c.only.result) me (λ s. (only s).0) ((only me).1 refl) c.args.first.now c.args.second.now (agreed.0 ok),
      λ a. agreed.1 (agree-alone (member c.only.result) me (λ s. (only s).0) ((only me).1 refl) c.args.first.now c.args.second.now a),
    )

pub returns-clause-refused : goal.returns-clause-refused
returns-clause-refused c =
    let me = c.args.me in
    let only = c.only.ensures in
    IfErr-weaker c.agreement.result _ _
    (refuses-one (member c.only.result) me (λ s. (only s).0) ((only me).1 refl) c.args.first.now c.args.second.now)
    c.agreement.ensures.refused
