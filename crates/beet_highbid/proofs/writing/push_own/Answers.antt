use Rattle.std.proofs.Common.{◌≡◌, true, append_assoc, sym, ◌∙◌}
use Rattle.beet_view.specs.BookViews.{names}
use Rattle.beet_highbid.proofs.writing.push_own.Goals as goal

pub returns-in_ok-push_list : goal.returns-in_ok-push_list
returns-in_ok-push_list c =
    let known : names c.args.bid.now.known c.args.me ≡ true = sym c.knows-known.ensures ∙ c.if-known.true in
    rw (known, c.in_ok-push_list.ensures.bytes, c.in_ok-push_number.ensures) (simp append_assoc)
