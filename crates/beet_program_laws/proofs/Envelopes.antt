-- What the envelopes of bidders are read as is within limits.
use Rattle.std.proofs.Common.{◌≡◌, ◌+◌, ◌*◌, ℕ, List, [], ◌∷◌, ◌++◌, length, All, Ok, IfOk, arith, subst, length-append}
use Rattle.std.proofs.lemmas.List.Elements.{All-append, All-cons, All-nil}
use Rattle.beet_field.specs.Field.{IsElement}
use Rattle.beet_field.specs.declared.point.Point.{Point}
use Rattle.beet_field.specs.declared.point.Point.TheVariants.{One, Two, Three}
use Rattle.beet_field.specs.declared.trio.Trio.{Trio}
use Rattle.beet_store.specs.Files.{File}
use Rattle.beet_forms.specs.Faults.{Reading}
use Rattle.beet_words.specs.Fields.{ended, times}
use Rattle.beet_bids.specs.Grids.{Grid}
use Rattle.beet_farmer.specs.Envelopes.{after_header, below_p, envelope_of, point_at}
use Rattle.beet_farmer.specs.Sealing.{points_in}
use Rattle.beet_farmer.specs.declared.envelope.Envelope.{Envelope}
use Rattle.beet_farmer.specs.declared.envelope.TheConstants.{AFTER_POINTS, ENVELOPE_LIMIT}
use Rattle.beet_farmer.specs.declared.list_file.ListEntry.{ListEntry}
use Rattle.beet_view.proofs.ReadFacts.{number_at-within}
use Rattle.beet_errand.specs.Errands.{reads}
use Rattle.beet_gathering.specs.Gather.{bidders_errand, envelopes_errand}
use Rattle.beet_witness_laws.specs.SealedCurves.{AreInEnvelopes}
use Rattle.beet_program_laws.proofs.Files.{Reads, any-reads, has-each, then-reads, times-are}
use Rattle.beet_program_laws.proofs.Read.{one-more}
use Rattle.beet_program_laws.proofs.Steps.{Yields, gives-yield, reads-yield, then-yields, weaker-yield}

point-is : (bytes : List ℕ) → Reads (point_at bytes) IsElement
point-is bytes at =
    has-each (λ read. IsElement read.0) (point_at bytes at)
    (λ read e. (let within = number_at-within bytes below_p at read e in omega (arith, within.1)))

module _ (grid : Grid) where
  -- an envelope has two points for each price, which are numbers of the field
  abbrev HoldsPoints : Envelope → Type 0
  HoldsPoints envelope = All IsElement envelope.points × (length envelope.points ≡ 2 * grid.prices)

  envelope-reads : (s : Point) (bytes : List ℕ) → IfOk (envelope_of grid s bytes) HoldsPoints
  unfolding envelope_of
  envelope-reads s bytes =
      then-reads (after_header grid s bytes) _ (λ start. Unit {0}) HoldsPoints
      (any-reads (after_header grid s bytes)) (λ start any.
      then-reads (times (2 * grid.prices) (point_at bytes) start) _
      (λ points. All IsElement points.0 × (length points.0 ≡ 2 * grid.prices)) HoldsPoints
      (times-are (point_at bytes) IsElement (2 * grid.prices) (point-is bytes) start) (λ points h.
      then-reads (ended bytes AFTER_POINTS points.1) _ (λ done. Unit {0}) HoldsPoints
      (any-reads (ended bytes AFTER_POINTS points.1)) (λ done any. h)))

  envelope-is : (s : Point) (bytes : List ℕ) (envelope : Envelope) → envelope_of grid s bytes ≡ Ok envelope → HoldsPoints envelope
  envelope-is s bytes envelope e = subst (λ (r : Reading Envelope). IfOk r HoldsPoints) e (envelope-reads s bytes)

  in-envelopes : (one two three : Envelope) → HoldsPoints one → HoldsPoints two → HoldsPoints three →
      AreInEnvelopes grid (points_in (record { one = one; two = two; three = three }))
  in-envelopes one two three h k l = record {
    lengths = record { one = h.1; two = k.1; three = l.1 };
    elements = λ n lt. (
      h.0 n 0 (omega (arith, h.1, lt)),
      (k.0 n 0 (omega (arith, k.1, lt)), l.0 n 0 (omega (arith, l.1, lt))),
    );
  }

  -- so many bidders, whose points are as envelopes hold them
  abbrev pub AreHeld : ℕ → List (Trio (List ℕ)) → Type 0
  AreHeld count bidders = All (AreInEnvelopes grid) bidders × (length bidders ≡ count)

  module _ (files : List File) where
    envelopes-yield : (names : Trio (List ℕ)) → Yields files (envelopes_errand grid names) (AreInEnvelopes grid)
    envelopes-yield names =
        then-yields files (reads names.one ENVELOPE_LIMIT (envelope_of grid One)) _ HoldsPoints (AreInEnvelopes grid)
        (reads-yield files names.one ENVELOPE_LIMIT (envelope_of grid One) HoldsPoints (envelope-is One)) (λ one h.
        then-yields files (reads names.two ENVELOPE_LIMIT (envelope_of grid Two)) _ HoldsPoints (AreInEnvelopes grid)
        (reads-yield files names.two ENVELOPE_LIMIT (envelope_of grid Two) HoldsPoints (envelope-is Two)) (λ two k.
        then-yields files (reads names.three ENVELOPE_LIMIT (envelope_of grid Three)) _ HoldsPoints (AreInEnvelopes grid)
        (reads-yield files names.three ENVELOPE_LIMIT (envelope_of grid Three) HoldsPoints (envelope-is Three))
        (λ three l.
        gives-yield files (AreInEnvelopes grid) (points_in (record { one = one; two = two; three = three }))
        (in-envelopes one two three h k l))))

    bidders-after : (read : List (Trio (List ℕ))) → All (AreInEnvelopes grid) read → (entries : List ListEntry) →
        Yields files (bidders_errand grid read entries) (AreHeld (length read + length entries))
    bidders-after read are [] = gives-yield files (AreHeld (length read + 0)) read (are, omega arith)
    bidders-after read are (entry ∷ entries) =
        then-yields files (envelopes_errand grid entry.envelopes)
        (λ points. bidders_errand grid (read ++ points ∷ []) entries) (AreInEnvelopes grid)
        (AreHeld (length read + length (entry ∷ entries))) (envelopes-yield entry.envelopes) (λ points is.
        let more = All-append (AreInEnvelopes grid) read (points ∷ []) are
        (All-cons (AreInEnvelopes grid) points [] is (All-nil (AreInEnvelopes grid))) in
        let long : length (read ++ points ∷ []) ≡ length read + 1 = length-append read (points ∷ []) in
        weaker-yield files (bidders_errand grid (read ++ points ∷ []) entries)
        (AreHeld (length (read ++ points ∷ []) + length entries)) (AreHeld (length read + length (entry ∷ entries)))
        (λ bidders h.
        (h.0, one-more (length bidders) (length (read ++ points ∷ [])) (length read) (length entries) h.1 long))
        (bidders-after (read ++ points ∷ []) more entries))

    -- where a job is done that reads the envelopes of these entries, each bidder has its points in them
    pub bidders-yield : (entries : List ListEntry) →
        Yields files (bidders_errand grid [] entries) (AreHeld (0 + length entries))
    bidders-yield entries = bidders-after [] (All-nil (AreInEnvelopes grid)) entries
