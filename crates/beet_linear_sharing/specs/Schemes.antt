-- Five servers, of which three open a secret.
use Rattle.beet_weights.specs.Quadratics.{point_of, recombined, reshared, servers}
use Rattle.beet_linear_sharing.specs.Sharings.{Sharing}

-- a value v is shared by a polynomial of degree at most two: v + a * i + b * i^2
abbrev pub five_servers : Sharing
five_servers = record {
  servers = servers;
  degree = 2;
  share = λ v numbers i. point_of v (numbers 0) (numbers 1) i;
  reshared = reshared;
  opened = recombined;
}
