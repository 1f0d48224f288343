-- A small run among five servers whose numbers are worked by hand.
use Rattle.std.specs.Prelude.{ℕ, List, [], ◌∷◌, map, slice_index}
use Rattle.beet_gates.specs.Product.{product_batch}
use Rattle.beet_linear_sharing.specs.Runs.{Setup, message, shared_at}
use Rattle.beet_linear_sharing.specs.Schemes.{five_servers}
use Rattle.beet_coalition.specs.Lists.{at_server}

-- the product of two inputs, on the points of 3 + 5i + i^2 and 4 + 2i + 3i^2, if the servers draw 1 and 2, 3 and 4,
-- 5 and 6, 7 and 8, 9 and 10
abbrev pub product_setup : Setup
product_setup = record {
  next = λ done opened. product_batch done;
  inputs = at_server ((9 ∷ 9 ∷ []) ∷ (17 ∷ 20 ∷ []) ∷ (27 ∷ 37 ∷ []) ∷ (39 ∷ 60 ∷ []) ∷ (53 ∷ 89 ∷ []) ∷ []);
  masks = at_server [];
  numbers = at_server ((1 ∷ 2 ∷ []) ∷ (3 ∷ 4 ∷ []) ∷ (5 ∷ 6 ∷ []) ∷ (7 ∷ 8 ∷ []) ∷ (9 ∷ 10 ∷ []) ∷ []);
}

-- what a server sends each of the five for the product
abbrev pub sends : ℕ → List (List ℕ)
sends from = map (λ to. message five_servers product_setup from to 0) five_servers.servers

-- the points of the product
abbrev pub product_points : List ℕ
product_points = map (λ i. slice_index ((shared_at five_servers product_setup 1).wires i) 2) five_servers.servers
