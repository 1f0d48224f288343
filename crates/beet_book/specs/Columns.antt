-- Points of the three servers, in memory that was taken before.
use Rattle.std.specs.Prelude.{ℕ, ◌<◌, List, [], ◌∷◌, ◌++◌, length}
use Rattle.beet_field.specs.declared.trio.Trio.{Trio}

-- the points so far, and how many there is room for at each server
pub record Columns : Type 0 where
  pub room : ℕ
  pub points : Trio (List ℕ)

-- no points yet, with so much room
abbrev pub none_in : ℕ → Columns
none_in room = record { room = room; points = record { one = []; two = []; three = [] } }

-- there is room for one more point at each server
pub record HasRoom (columns : Columns) : Type 0 where
  pub one : length columns.points.one < columns.room
  pub two : length columns.points.two < columns.room
  pub three : length columns.points.three < columns.room

-- with one more point at each server
abbrev pub pushed : Columns → Trio ℕ → Columns
pushed columns points = record {
  room = columns.room;
  points = record {
    one = columns.points.one ++ points.one ∷ [];
    two = columns.points.two ++ points.two ∷ [];
    three = columns.points.three ++ points.three ∷ [];
  };
}
