use Rattle.std.proofs.Common.{◌≡◌, ◌++◌, ◌∙◌, map}
use Rattle.std.proofs.lemmas.Result.{on_ok_weaker}
use Rattle.beet_five_server.specs.Network.{peers}
use Rattle.beet_five_view.specs.CoreViews.{numbers_received}
use Rattle.beet_five_view.specs.JointViews.{round_bytes}
use Rattle.beet_five_view.proofs.More.{five-peers, sent_bytes}
use Rattle.beet_five_view.proofs.writing.push_round.Goals as goal

pub returns : goal.returns
returns c =
    let core = c.args.core.now in
    let got = numbers_received core c.args.round in
    let front = c.args.file.now.items in
    let whole : c.push_message-4.new.file.items ++ sent_bytes got core.work.me 5 ≡ front ++ round_bytes (map got (peers core.work.me)) =
    rw (
      c.in_ok-push_message-4.ensures,
      c.in_ok-push_message-3.ensures,
      c.in_ok-push_message-2.ensures,
      c.in_ok-push_message.ensures,
    )
    (five-peers got front core.work.me c.requires) in
    on_ok_weaker c.push_message-5.result (λ last. last ∙ whole) c.push_message-5.ensures
