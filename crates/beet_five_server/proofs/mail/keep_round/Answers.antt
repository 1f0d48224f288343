use Rattle.beet_five_server.proofs.MailFacts.{five-kept, kept-step}
use Rattle.beet_five_server.proofs.mail.keep_round.Goals as goal

pub returns-clause-round : goal.returns-clause-round
returns-clause-round c =
    five-kept c.args.want c.args.round c.args.places.now.items c.keep.new.places.items c.keep-2.new.places.items c.keep-3.new.places.items
    c.keep-4.new.places.items c.keep-5.new.places.items
    (kept-step _ _ _ _ _ c.place_of.ensures c.keep.ensures.at c.keep.ensures.others)
    (kept-step _ _ _ _ _ c.place_of-2.ensures c.keep-2.ensures.at c.keep-2.ensures.others)
    (kept-step _ _ _ _ _ c.place_of-3.ensures c.keep-3.ensures.at c.keep-3.ensures.others)
    (kept-step _ _ _ _ _ c.place_of-4.ensures c.keep-4.ensures.at c.keep-4.ensures.others)
    (kept-step _ _ _ _ _ c.place_of-5.ensures c.keep-5.ensures.at c.keep-5.ensures.others)
