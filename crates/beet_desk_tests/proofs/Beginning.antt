-- What servers have to tell that have just begun.
use Rattle.std.proofs.Common.{◌≡◌, Result, Ok, IfOk, ap, drop, ◌∙◌}
use Rattle.beet_field.specs.Trio.{member}
use Rattle.beet_field.specs.declared.point.Point.{Point}
use Rattle.beet_field.specs.declared.trio.Trio.{Trio}
use Rattle.beet_server.specs.Cores.{AreFresh, Core}
use Rattle.beet_server.proofs.Rounds.{by_point}
use Rattle.beet_station.specs.Notes.{notes_from, notes_left}
use Rattle.beet_desk.specs.Ends.{Receiver, Sender, sender_at_start}
use Rattle.beet_desk.proofs.RunFacts.{in-ok, starts-told}
use Rattle.beet_samples.specs.contracts.SampleScript3.TheImpl.{ghosts}
use Rattle.beet_samples.specs.declared.Sample.{Sample}

-- each sender has still to tell what its server tells of the run
abbrev pub AwaitAll : Trio (Core Sample) → Trio Sender → Type 0
AwaitAll start senders =
    (s : Point) (run : Trio (Core Sample)) (core : Core Sample) → run ≡ start → core ≡ member start s →
    drop (member senders s).pushed (member senders s).notes ≡ notes_left ghosts.batch_of ghosts.inputs_of ghosts.rounds_of run s core.round

none-passed : (start : Trio (Core Sample)) → AreFresh ghosts.batch_of ghosts.inputs_of start → (s : Point) → (member start s).round ≡ 0
none-passed start fresh =
    by_point (λ s. (member start s).round ≡ 0) (ap (λ k. k.round) fresh.one.1) (ap (λ k. k.round) fresh.two.1)
    (ap (λ k. k.round) fresh.three.1)

-- the senders of a queue that was made for fresh servers
pub await-all : {E F : Type 0} {cores : Result (Trio (Core Sample)) E} {start : Trio (Core Sample)}
    {made : Result (Trio Sender × Receiver) F} {ends : Trio Sender × Receiver} → cores ≡ Ok start →
    IfOk cores (AreFresh ghosts.batch_of ghosts.inputs_of) → made ≡ Ok ends → IfOk made (λ ends. (s : Point) → member ends.0 s
    ≡ sender_at_start ends.1.queue (notes_from ghosts.batch_of ghosts.inputs_of ghosts.rounds_of start) s) → AwaitAll start ends.0
await-all {cores = cores} {start = start} {made = made} {ends = ends} ok fresh ok' senders s run core same is =
    starts-told ghosts.batch_of ghosts.inputs_of ghosts.rounds_of start _ (member ends.0 s) s run core
    (in-ok made ends _ ok' senders s) same
    (ap (λ k. k.round) is ∙ none-passed start (in-ok cores start _ ok fresh) s)
