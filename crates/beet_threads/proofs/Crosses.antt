-- What may go to another thread.
use denote.RattleType.{RattleType}
use denote.Param.Send.{IsSend, sendable}
use Rattle.beet_gates.specs.declared.Script.{Ghosts}
use Rattle.beet_station.proofs.station.Station.TheSendSync as Station
use Rattle.beet_station.proofs.station.Mail.TheSendSync as Mail
use Rattle.beet_station.specs.declared.notes.Sink.{Ghosts as Told}
use Rattle.beet_threads.specs.contracts.serving.Serving as Serving

-- a server that is to run may where its script, the place there and whom it tells may
pub Serving-send : (S P K : RattleType) (g : Ghosts S.Denot 3 P.Denot) (k : Told K.Denot) → IsSend S → IsSend P →
    IsSend K → IsSend (Serving.the_row S K P g k)
Serving-send S P K g k s p q = let station = Station.the_field_send S P g s p in let mail = Mail.the_field_send in search sendable depth 20
