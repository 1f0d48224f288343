-- What an auction file reads as once its first five rows are taken.
use Rattle.std.proofs.Common.{◌≡◌, ℕ, Bool, List, ◌∷◌, slice_get, codes, Ok, refl}
use Rattle.beet_forms.specs.Faults.{first_fault, reading_of, row_reading}
use Rattle.beet_forms.specs.declared.row.Row.{Row}
use Rattle.beet_gates.specs.declared.Gates.{Gates}
use Rattle.beet_gates.specs.declared.Gates.TheVariants.{Chain}
use Rattle.beet_bids.specs.declared.grid.TheConstants.{LARGEST_BASE, LARGEST_TICK, MOST_PRICES}
use Rattle.beet_bids.specs.AuctionFiles.{auction_in, gates_named, last_reasons, name_reason, named_in, number_in}
use Rattle.beet_bids.specs.AuctionFiles.{number_reason, policy_in, tells_policy, value_of, version_reason}
use Rattle.beet_bids.proofs.LineFacts.{row_read}

module _ (rows after1 after2 after3 after4 rest : List Row) (row1 row2 row3 row4 row5 : Row)
    (is1 : rows ≡ row1 ∷ after1) (is2 : after1 ≡ row2 ∷ after2) (is3 : after2 ≡ row3 ∷ after3)
    (is4 : after3 ≡ row4 ∷ after4) (is5 : after4 ≡ row5 ∷ rest)
    (tells : Bool) (base tick prices : ℕ) (gates : Gates) where
  pub five-taken :
      row_reading 1 (version_reason (value_of (codes "beet-auction") (slice_get rows 0)))
      (tells_policy (value_of (codes "beet-auction") (slice_get rows 0))) ≡ Ok tells →
      row_reading 2 (number_reason 0 LARGEST_BASE (value_of (codes "base") (slice_get after1 0)))
      (number_in (value_of (codes "base") (slice_get after1 0))) ≡ Ok base →
      row_reading 3 (number_reason 1 LARGEST_TICK (value_of (codes "tick") (slice_get after2 0)))
      (number_in (value_of (codes "tick") (slice_get after2 0))) ≡ Ok tick →
      row_reading 4 (number_reason 1 MOST_PRICES (value_of (codes "prices") (slice_get after3 0)))
      (number_in (value_of (codes "prices") (slice_get after3 0))) ≡ Ok prices →
      row_reading 5 (name_reason gates_named (value_of (codes "gates") (slice_get after4 0)))
      (named_in gates_named Chain (value_of (codes "gates") (slice_get after4 0))) ≡ Ok gates →
      auction_in rows
      ≡ reading_of (first_fault 6 (last_reasons tells rest))
      (record { base = base; tick = tick; prices = prices; gates = gates; policy = policy_in tells rest })
  five-taken h1 h2 h3 h4 h5 =
      let all : rows ≡ row1 ∷ row2 ∷ row3 ∷ row4 ∷ row5 ∷ rest = rw (is1, is2, is3, is4, is5) refl in
      let a = row_read 1 _ _ tells (rw is1 at h1) in
      let b = row_read 2 _ _ base (rw is2 at h2) in
      let c = row_read 3 _ _ tick (rw is3 at h3) in
      let d = row_read 4 _ _ prices (rw is4 at h4) in
      let e = row_read 5 _ _ gates (rw is5 at h5) in
      rw all
      (λ i. reading_of (first_fault 1 (a.0 i ∷ b.0 i ∷ c.0 i ∷ d.0 i ∷ e.0 i ∷ last_reasons (a.1 i) rest))
      (record { base = b.1 i; tick = c.1 i; prices = d.1 i; gates = e.1 i; policy = policy_in (a.1 i) rest }))
