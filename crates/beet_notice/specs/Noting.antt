-- How the seeds are kept of which one may come twice, and how a shelf is watched for them.
use Rattle.std.specs.Prelude.{◌≡◌, ℕ, Bool, false, List, length, min}
use Rattle.std.specs.BTreeSet.{contains_by}
use Rattle.std.specs.Cmp.Lexicographic.{slice_cmp}
use Rattle.std.specs.Ordering.{nat_cmp}
use Rattle.beet_store.specs.Files.{Fetch}
use Rattle.beet_notice.specs.Notices.{come_twice, is_among, seeds_seen}
use Rattle.beet_notice.specs.declared.seeds.Seeds.{Seeds}
use Rattle.beet_notice.specs.declared.watch.Watch.{Watch}
use Rattle.beet_notice.specs.declared.watch.TheConstants.{BOOK}

-- the set of these seeds, and whether one comes twice
pub record HasSeeds (seeds : List (List ℕ)) (kept : Seeds) : Type 0 where
  pub set : (seed : List ℕ) → contains_by (slice_cmp nat_cmp seed) kept.set ≡ is_among seed seeds
  pub twice : kept.twice ≡ come_twice seeds

-- of these fetches the seeds are kept, unless some were lost
pub record HasNoted (fetches : List Fetch) (watch : Watch) : Type 0 where
  pub counted : watch.count ≡ min BOOK (length fetches)
  pub noted : watch.lost ≡ false → HasSeeds (seeds_seen fetches) watch.seeds

-- a shelf that is watched, and whether memory for a seed was wanting
pub record Watching (S : Type 0) : Type 0 where
  pub shelf : S
  pub lost : Bool
