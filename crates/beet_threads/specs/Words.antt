-- What a server has come to that was told whether it is to run.
use Rattle.std.specs.Prelude.{◌≡◌, ℕ, Bool, List, [], true, false}
use Rattle.beet_field.specs.Trio.{member}
use Rattle.beet_field.specs.declared.point.Point.{Point}
use Rattle.beet_field.specs.declared.trio.Trio.{Trio}
use Rattle.beet_gates.specs.declared.Batch.{Batch}
use Rattle.beet_server.specs.Cores.{Core}
use Rattle.beet_station.specs.Notes.{Awaits}
use Rattle.beet_station.specs.Stations.{IsEnded}
use Rattle.beet_station.specs.declared.notes.DeskNote.{DeskNote}

module _ {S : Type 0} (next : S → ℕ → List ℕ → Batch) (inputs most : S → ℕ) {K : Type 0}
    (due : K → List DeskNote → List DeskNote) (origin : K → K) where
  -- the server has ended, and has told of all its rounds
  abbrev pub HasTold : Trio (Core S) → Point → K → Core S × K → Type 0
  HasTold start me sink end =
      IsEnded next inputs most start me end.0 × Awaits (due end.1) [] × (origin end.1 ≡ origin sink)

  -- the word is that of this lock: if it is that the servers run, this one has ended, and else it stands as it began
  pub record HasServed (start : Trio (Core S)) (me : Point) (sink : K) (lock of : ℕ) (told : Bool)
      (end : Core S × K) : Type 0 where
    pub heard : of ≡ lock
    pub ran : told ≡ true → HasTold start me sink end
    pub stayed : told ≡ false → end.0 ≡ member start me
