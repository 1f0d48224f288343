-- Three servers that have held a sale: how it ended, and what each of them has seen.
use Rattle.std.proofs.Common.{◌≡◌, ◌≤◌, ℕ, List, [], map, length, slice_index, sym, ap, ◌∙◌, subst, arith, refl}
use Rattle.std.proofs.Common.{Some, None, Option, All, inl, inr, append-nil}
use Rattle.std.proofs.lemmas.Bool.{cases_lt}
use Rattle.std.proofs.lemmas.List.{get_or_past, length-map}
use Rattle.std.proofs.lemmas.List.Elements.{All-map}
use Rattle.beet_field.specs.Field.{IsElement}
use Rattle.beet_field.specs.Trio.{member, trio_of}
use Rattle.beet_field.specs.declared.point.Point.{Point}
use Rattle.beet_field.specs.declared.point.Point.TheVariants.{One, Two, Three}
use Rattle.beet_field.specs.declared.trio.Trio.{Trio}
use Rattle.beet_gates.specs.Clear.{clear_values, rounds_run}
use Rattle.beet_gates.specs.Plans.{plan_finish}
use Rattle.beet_gates.specs.Scripts.{LawFrom, Standing, bounds_of, start_of}
use Rattle.beet_gates.specs.declared.Gates.{Gates}
use Rattle.beet_words.specs.Bundles.{Words}
use Rattle.beet_words.specs.Words.{accepted}
use Rattle.beet_masking.specs.Masks.{AreMasks}
use Rattle.beet_sharing.specs.Lines.{OnLines}
use Rattle.beet_sharing.specs.Runs.{Setup, rounds_among, shared_at}
use Rattle.beet_sharing.specs.Seen.{SeenRun, run_seen}
use Rattle.beet_sharing.proofs.Lined.{member-trio}
use Rattle.beet_sharing.proofs.Rounds.{ends-alike}
use Rattle.beet_delivery.specs.Events.{Delivered, all_delivered}
use Rattle.beet_server.specs.Cores.{Core}
use Rattle.beet_server.specs.Fits.{Fits}
use Rattle.beet_server.specs.Lockstep.{IsAtRound}
use Rattle.beet_map.specs.Secrets.{shares_of, slopes_of, values_of}
use Rattle.beet_map.proofs.Grounds.{on_lines}
use Rattle.beet_mapped.specs.Dealers.{Dealer, dealers_of}
use Rattle.beet_mapped.specs.Trades.{rounds_in, setup_in}
use Rattle.beet_sale_plan.specs.Outcome.{IsBid}
use Rattle.beet_sale_plan.specs.Sale.{Sale, bidders_of, most_coefficients, most_masks, most_rounds, most_wires, sale_batch, sale_plan}
use Rattle.beet_sale_plan.specs.SaleRuns.{AreOpened, SaleEnds, values_of_sale}
use Rattle.beet_sale_plan.specs.declared.SaleEnd.{SaleEnd}
use Rattle.beet_sale_plan.proofs.SaleFacts.{is-sale, kept_of}
use Rattle.beet_sale_plan.proofs.SaleRun.{sale-run}
use Rattle.beet_sale_plan.proofs.SaleStands.{sale-law}
use Rattle.beet_sale_file.specs.Sales.{IsSaleRecord, SaleRecord, bids_of as bids_in}
use Rattle.beet_sale_file.specs.declared.rows.SaleBid.{SaleBid}
use Rattle.beet_sale_file.specs.declared.rows.SaleRow.{SaleRow}
use Rattle.beet_sale_map.specs.Bids.{AreSaleBids, bids_of, sale_over}
use Rattle.beet_sale_map.specs.Enough.{AreEnough, cut_words}
use Rattle.beet_sale_map.specs.InputLines.{dealer_lines}
use Rattle.beet_sale_map.specs.MappedSales.{run_seen_in, run_seen_of}
use Rattle.beet_sale_map.specs.Worlds.{party_of, point_in, points_of, trade_of}
use Rattle.beet_sale_map.proofs.SaleWorlds.{bid-values, input-lines, many-dealers}
use Rattle.beet_highbid.specs.SaleViews.{sale_bytes, sale_transcript, seen_bid}
use Rattle.beet_highbid.proofs.CutWords.{transcript-read}
use Rattle.beet_highbid.proofs.SaleRows.{are-sale-bids}
use Rattle.beet_load.specs.Servers.{ServerWords, cut_servers}
use Rattle.beet_load.specs.Wholes.{by_server}
use Rattle.beet_run.specs.Runs.{CanStart, HaveRunScript}
use Rattle.beet_sale_load.specs.SaleLoading.{SaleRead, CanStart as Starts}
use Rattle.beet_sale_load.specs.SaleWants.{counts_of}
use Rattle.beet_sale_run.specs.Results.{price_of, winner_of}
use Rattle.beet_sale_run.specs.SaleRuns.{HaveHeld, bids_finish, bids_rounds, finish_read, rounds_read}
use Rattle.beet_sale_run.proofs.ResultFacts.{told-sale}
use Rattle.beet_sale_map.proofs.SaleWorlds.{bid-small}

-- the tapes of words that are not cut
pub tapes-read : (rows : List SaleRow) (words : Words) → cut_words (bids_in rows) words ≡ words →
    cut_servers (counts_of (length rows)) words ≡ by_server words
tapes-read rows words cut =
    ap (λ n. cut_servers (counts_of n) words) (sym (length-map rows (λ (row : SaleRow). row.bid))) ∙ ap by_server cut

pub no-end : {A : Type 0} {x : A} (o : Option A) → o ≡ None → o ≡ Some x → ⊥
no-end None a b = cc b
no-end (Some y) a b = cc a

-- a list that is not cut has what is wanted of it
not-cut : (wanted : ℕ) (cut words : List ℕ) → cut ≡ words → wanted ≤ length (accepted cut) → wanted ≤ length (accepted words)
not-cut wanted cut words e h = subst (λ (l : List ℕ). wanted ≤ length (accepted l)) e h

module _ (gates : Gates) (bids : List SaleBid) (words : Words) (are : AreSaleBids bids) where
  abbrev sale : Sale
  sale = sale_over gates bids

  abbrev points : Trio (List ℕ)
  points = trio_of (points_of (dealers_of (map party_of bids) words.bidders))

  -- the points of the lines are the inputs
  pub points-are : trio_of (shares_of (dealer_lines bids words.bidders)) ≡ points
  points-are = λ i. record {
    one = input-lines gates bids words.bidders One i;
    two = input-lines gates bids words.bidders Two i;
    three = input-lines gates bids words.bidders Three i;
  }

  count : bidders_of sale ≡ length bids
  count = omega (arith, are.size.some)

  module _ (enough : AreEnough bids words) where
    long : (i : Point) → length (member points i) ≡ bidders_of sale
    long i =
        let dealers = dealers_of (map party_of bids) words.bidders in
        ap length (member-trio (points_of dealers) i) ∙ length-map dealers (λ (d : Dealer). point_in d i)
        ∙ many-dealers bids words.bidders enough.count ∙ sym count

    -- the servers can begin
    pub can-start : cut_words bids words ≡ words → (i : Point) →
        CanStart bidders_of most_coefficients most_masks sale (member points i) (member (by_server words) i)
    can-start cut One = record {
      points = long One;
      coefficients = omega (arith, count, not-cut _ _ _ (ap (λ (w : Words). w.coefficients.one) cut) enough.one);
      masks = omega (arith, count, enough.masks.0);
    }
    can-start cut Two = record {
      points = long Two;
      coefficients = omega (arith, count, not-cut _ _ _ (ap (λ (w : Words). w.coefficients.two) cut) enough.two);
      masks = omega (arith, count, enough.masks.1);
    }
    can-start cut Three = record {
      points = long Three;
      coefficients = omega (arith, count, not-cut _ _ _ (ap (λ (w : Words). w.coefficients.three) cut) enough.three);
      masks = omega (arith, count, enough.masks.2);
    }

    element : (k : ℕ) → IsElement (slice_index (bids_of bids) k)
    element k = elim (cases_lt k (length bids)) [
      | inl within ↦ (let small = bid-small bids are.limits k within in omega (arith, small))
      | inr past ↦
          (let none = get_or_past (bids_of bids) k 0 (omega (arith, past, length-map bids (λ (b : SaleBid). b.bid))) in
          omega (arith, none))
    ]

    values : values_of (dealer_lines bids words.bidders) ≡ bids_of bids
    values = bid-values bids words.bidders enough.count

    -- and lie on lines whose values are the bids
    lines : OnLines (bids_of bids) (slopes_of (dealer_lines bids words.bidders)) points
    lines =
        let all = dealer_lines bids words.bidders in
        subst (λ t. OnLines (bids_of bids) (slopes_of all) t) points-are
        (subst (λ v. OnLines v (slopes_of all) (trio_of (shares_of all))) values
        (on_lines all (λ k. subst (λ v. IsElement (slice_index v k)) (sym values) (element k))))

    abbrev setup : Setup
    setup = setup_in (trade_of gates bids) words

    abbrev pub bounds : Standing
    bounds = bounds_of (most_wires sale) (most_masks sale) (most_coefficients sale)

    many : length (bids_of bids) ≡ bidders_of sale
    many = length-map bids (λ (b : SaleBid). b.bid) ∙ sym count

    pub law : LawFrom (sale_batch sale) bounds (most_rounds sale) (start_of (length (bids_of bids))) []
    law = subst (λ n. LawFrom (sale_batch sale) bounds (most_rounds sale) (start_of n) []) (sym many) (sale-law sale)

    pub alike : (rounds_among setup (most_rounds sale) ≡ rounds_run (sale_batch sale) (most_rounds sale) (bids_of bids) words.masks)
        × ((shared_at setup (rounds_among setup (most_rounds sale))).opened
        ≡ (clear_values (sale_batch sale) (most_rounds sale) (bids_of bids) words.masks).opened)
    alike = ends-alike setup bounds (most_rounds sale) (bids_of bids) (slopes_of (dealer_lines bids words.bidders)) law lines

    -- the sale of the bids ends with their winner and price, or spent
    pub ends : AreMasks words.masks → SaleEnds sale (bids_of bids) words.masks (winner_of (bids_of bids)) (price_of (bids_of bids))
    ends masks =
        let all = bids_of bids in
        let k = kept_of (slice_index all) sale.further in
        let told = told-sale all k.who k.next (is-sale all sale.further many (omega (arith, are.size.some))) in
        let run = sale-run sale all words.masks (omega (arith, count, are.size.few)) many
        (λ j lt. bid-small bids are.limits j (omega (arith, count, lt))) masks in
        subst (λ w. SaleEnds sale all words.masks w (price_of all)) (sym told.0)
        (subst (SaleEnds sale all words.masks k.who) (sym told.1) run)

    module _ (cores : Trio (Core Sale))
        (h : HaveRunScript sale_batch bidders_of most_rounds sale points (by_server words) cores) where
      stands : (s : Point) → IsAtRound sale_batch setup (rounds_in (trade_of gates bids) words) s (member cores s)
      stands s =
          subst (λ n. IsAtRound sale_batch setup n s (member cores s)) (ap (λ a. rounds_among setup (most_rounds a)) (h.starts.script One))
          (subst (λ (x : Setup). IsAtRound sale_batch x (rounds_among x (most_rounds h.start.one.script)) s (member cores s))
          h.starts.setup (h.ended.ended s))

      opened-are : (s : Point) → (member cores s).opened ≡ (values_of_sale sale (bids_of bids) words.masks).opened
      opened-are s = (stands s).fits.opened ∙ ap (λ t. (shared_at setup t).opened) (stands s).round ∙ alike.1

      -- each server has the script, and has opened the numbers of a run of the sale
      pub script-is : (s : Point) → (member cores s).script ≡ sale
      script-is s = h.ended.script s ∙ h.starts.script One

      pub are-opened : (s : Point) → AreOpened sale (member cores s).opened
      are-opened s = record {
        bids = bids_of bids;
        words = words.masks;
        later = [];
        count = many;
        limits = All-map IsBid (λ (b : SaleBid). b.bid) bids are.limits;
        masks = h.starts.are_masks;
        are = sym (opened-are s) ∙ sym (append-nil (member cores s).opened);
      }

      -- what it names is how the sale ends
      pub named-is : (s : Point) (answer : Option SaleEnd) → answer ≡ plan_finish (sale_plan sale) (member cores s).opened →
          answer ≡ Some (bids_finish gates bids words.masks)
      named-is s answer e =
          e ∙ ap (plan_finish (sale_plan sale)) (opened-are s) ∙ (ends h.starts.are_masks).ends

      pub rounds-are : (s : Point) → (member cores s).round ≡ bids_rounds gates bids words.masks
      rounds-are s = (stands s).round ∙ alike.0 ∙ (ends h.starts.are_masks).rounds

      seen-in : (s : Point) → run_seen setup (member cores s).me (member cores s).round (member cores s).masks.words
          (member cores s).coefficients.words
          ≡ run_seen_in (trade_of gates bids) words s
      seen-in s =
          let c = member cores s in
          let n = rounds_in (trade_of gates bids) words in
          ap (λ (me : Point). run_seen setup me c.round c.masks.words c.coefficients.words) (stands s).name
          ∙ ap (λ (k : ℕ). run_seen setup s k c.masks.words c.coefficients.words) (stands s).round
          ∙ ap (λ (l : List ℕ). run_seen setup s n l c.coefficients.words) (h.ended.masks s ∙ h.starts.masks s ∙ masks-at s)
          ∙ ap (run_seen setup s n (member words.masks s)) (h.ended.coefficients s ∙ h.starts.coefficients s ∙ coefficients-at s) where
            masks-at : (s : Point) → (member (by_server words) s).masks ≡ member words.masks s
            masks-at One = refl
            masks-at Two = refl
            masks-at Three = refl

            coefficients-at : (s : Point) → (member (by_server words) s).coefficients ≡ member words.coefficients s
            coefficients-at One = refl
            coefficients-at Two = refl
            coefficients-at Three = refl

      -- and what it has seen is what is seen of the sale
      pub seen-is : (s : Point) (core : Core Sale) (seen : SeenRun) → cut_words bids words ≡ words → core ≡ member cores s →
          ((o : Setup) (x : Delivered) → Fits sale_batch o x core →
          seen ≡ run_seen o core.me core.round core.masks.words core.coefficients.words) →
          seen ≡ run_seen_of gates bids words s
      seen-is s core seen cut e tells =
          let all = all_delivered (rounds_in (trade_of gates bids) words) in
          tells setup all (subst (λ (c : Core Sale). Fits sale_batch setup all c) (sym e) (stands s).fits)
          ∙ ap (λ (c : Core Sale). run_seen setup c.me c.round c.masks.words c.coefficients.words) e ∙ seen-in s
          ∙ ap (λ (w : Words). run_seen_in (trade_of gates bids) w s) (sym cut)

module _ (read : SaleRead) (limits : IsSaleRecord read.sale) (start : Starts read) (script : Sale) (inputs : Trio (List ℕ))
    (tapes : Trio ServerWords) (is : script ≡ sale_over read.sale.gates (bids_in read.sale.rows))
    (dealt : inputs ≡ trio_of (shares_of (dealer_lines (bids_in read.sale.rows) read.words.bidders)))
    (cut : tapes ≡ by_server read.words) where
  abbrev row_bids : List SaleBid
  row_bids = bids_in read.sale.rows

  abbrev the_sale : Sale
  the_sale = sale_over read.sale.gates row_bids

  abbrev the_points : Trio (List ℕ)
  the_points = trio_of (points_of (dealers_of (map party_of row_bids) read.words.bidders))

  same-points : inputs ≡ the_points
  same-points = dealt ∙ points-are read.sale.gates row_bids read.words (are-sale-bids read.sale limits)

  -- three servers can hold a sale that is read
  pub can-hold : (i : Point) → CanStart bidders_of most_coefficients most_masks script (member inputs i) (member tapes i)
  can-hold i =
      subst (λ (s : Sale). CanStart bidders_of most_coefficients most_masks s (member inputs i) (member tapes i)) (sym is)
      (subst (λ (x : Trio (List ℕ)). CanStart bidders_of most_coefficients most_masks the_sale (member x i) (member tapes i))
      (sym same-points)
      (subst (λ (x : Trio ServerWords). CanStart bidders_of most_coefficients most_masks the_sale (member the_points i) (member x i))
      (sym cut)
      (can-start read.sale.gates row_bids read.words (are-sale-bids read.sale limits) start.enough start.cut i)))

  -- and those that have run it have held it
  pub have-held : (cores : Trio (Core Sale)) →
      HaveRunScript sale_batch bidders_of most_rounds script inputs tapes cores → HaveHeld read cores
  have-held cores h = record {
    limits = limits;
    starts = start;
    ran = subst (λ (s : Sale). HaveRunScript sale_batch bidders_of most_rounds s the_points (by_server read.words) cores) is
        (subst (λ (x : Trio (List ℕ)). HaveRunScript sale_batch bidders_of most_rounds script x (by_server read.words) cores) same-points
        (subst (λ (x : Trio ServerWords). HaveRunScript sale_batch bidders_of most_rounds script inputs x cores) cut h));
  }

module _ (read : SaleRead) (cores : Trio (Core Sale)) (h : HaveHeld read cores) where
  abbrev bids : List SaleBid
  bids = bids_in read.sale.rows

  are : AreSaleBids bids
  are = are-sale-bids read.sale h.limits

  -- a server has opened the numbers of the sale
  pub held-opened : (core : Core Sale) → core ≡ cores.one → AreOpened core.script core.opened
  held-opened core e =
      subst (λ (c : Core Sale). AreOpened c.script c.opened) (sym e)
      (subst (λ (s : Sale). AreOpened s cores.one.opened)
      (sym (script-is read.sale.gates bids read.words are h.starts.enough cores h.ran One))
      (are-opened read.sale.gates bids read.words are h.starts.enough cores h.ran One))

  -- what it names is how the sale ends
  pub held-named : (core : Core Sale) → core ≡ cores.one → (answer : Option SaleEnd) →
      answer ≡ plan_finish (sale_plan core.script) core.opened → answer ≡ Some (finish_read read)
  held-named core e answer a =
      named-is read.sale.gates bids read.words are h.starts.enough cores h.ran One answer
      (a ∙ ap (λ (c : Core Sale). plan_finish (sale_plan c.script) c.opened) e
      ∙ ap (λ (s : Sale). plan_finish (sale_plan s) cores.one.opened)
      (script-is read.sale.gates bids read.words are h.starts.enough cores h.ran One))

  pub held-rounds : (core : Core Sale) → core ≡ cores.one → core.round ≡ rounds_read read
  held-rounds core e =
      ap (λ (c : Core Sale). c.round) e ∙ rounds-are read.sale.gates bids read.words are h.starts.enough cores h.ran One

  -- and the transcript of a server is that of the sale
  pub held-seen : (s : Point) (core : Core Sale) → core ≡ member cores s → (run : SeenRun) →
      ((o : Setup) (x : Delivered) → Fits sale_batch o x core →
      run ≡ run_seen o core.me core.round core.masks.words core.coefficients.words) →
      (lists : List (List ℕ)) → lists ≡ read.words.bidders → (sale : SaleRecord) → sale ≡ read.sale → (file : List ℕ) →
      file ≡ sale_bytes (record {
        server = s;
        gates = sale.gates;
        bids = map (seen_bid s) (dealers_of (map party_of (bids_in sale.rows)) lists);
        run = run;
      }) → file ≡ sale_transcript read.sale.gates bids read.words s
  held-seen s core e run tells lists l sale same file is =
      is
      ∙ (λ i. sale_bytes (record {
        server = s;
        gates = (same i).gates;
        bids = map (seen_bid s) (dealers_of (map party_of (bids_in (same i).rows)) (l i));
        run = run;
      }))
      ∙ transcript-read read.sale.gates bids read.words s run h.starts.cut
      (seen-is read.sale.gates bids read.words are h.starts.enough cores h.ran s core run h.starts.cut e tells)
