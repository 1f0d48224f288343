-- How a server stands in the auction of a book, after any events.
use Rattle.std.proofs.Common.{◌≡◌, ◌≢◌, ◌++◌, ℕ, inl, inr, List, [], Option, Some, refl, sym, ap, subst, ◌∙◌, arith}
use Rattle.std.proofs.Common.{eq-eqb, ne_eqb, true≢false}
use Rattle.std.specs.Prelude.{if◌then◌else◌}
use Rattle.std.proofs.lemmas.Bool.{cases_Bool, cases_eq, cases_lt}
use Rattle.beet_field.specs.declared.point.Point.{Point}
use Rattle.beet_field.specs.declared.point.Point.TheVariants.{One}
use Rattle.beet_field.specs.declared.trio.Trio.{Trio}
use Rattle.beet_words.specs.Bundles.{Words}
use Rattle.beet_gates.specs.Plans.{plan_finish}
use Rattle.beet_bids.specs.Books.{Book, IsBook}
use Rattle.beet_bids.specs.Outcomes.{outcome_of}
use Rattle.beet_plan.specs.Auction.{Auction, auction_batch, auction_over, auction_plan, most_rounds}
use Rattle.beet_plan.specs.Runs.{finish_of}
use Rattle.beet_plan.specs.declared.Finish.{Finish}
use Rattle.beet_plan.specs.declared.Finish.TheVariants.{MasksSpent}
use Rattle.beet_book.specs.Farmers.{book_with, farmers_of}
use Rattle.beet_book.proofs.FarmerLists.{book-whole}
use Rattle.beet_delivery.specs.Events.{Triple, after, after_from, nothing, passed}
use Rattle.beet_delivery.proofs.NetworkFacts.{after_append, passed_most}
use Rattle.beet_delivery.proofs.ThreeServers.{three-is}
use Rattle.beet_delivery.proofs.Undelivered.{passed_all}
use Rattle.beet_sharing.specs.Runs.{rounds_among, shared_at}
use Rattle.beet_server.specs.Cores.{Core, has_ended, setup_of}
use Rattle.beet_server.specs.Endings.{Ending, Ends, Waits}
use Rattle.beet_world.specs.Marks.{set_of, unmarked}
use Rattle.beet_world.specs.Worlds.{World, delivered_in, rounds_in}
use Rattle.beet_world.proofs.MarkFacts.{set-unmarked}
use Rattle.beet_auction.specs.Endings.{AuctionEnds, book_finish, book_rounds}
use Rattle.beet_auction.specs.Setups.{inputs_of, rounds_for, setup_for}
use Rattle.beet_auction.specs.WorldEnds.{IsAuctionCore, StandsBy, auction_in}
use Rattle.beet_auction.proofs.BookLines.{book-lines, slopes_of}
use Rattle.beet_auction.proofs.Ends.{book-ends}
use Rattle.beet_auction.proofs.WorldEnds.{stands-by}
use Rattle.beet_mapped.proofs.WorldFacts.{are-masks}
use Rattle.beet_headline.proofs.Delivering.{to-the-end}
use Rattle.beet_headline.specs.Statements.{AllDelivered, AllEndWith, AllHaveEnded, Began, CanRun, CoreOpensTheOutcome}
use Rattle.beet_headline.specs.Statements.{OpensTheOutcome, StandsRight, WereGiven, are_spent, ending_at, standing}

same-end : (x : Ending Finish) (a b : Option Finish) → x ≡ Ends a → x ≡ Ends b → a ≡ b
same-end x a b e f = cc (e, f)

pub same-finish : (f g : Finish) → Some f ≡ Some g → f ≡ g
same-finish f g e = cc e

same-round : (x : Ending Finish) (t u : ℕ) → x ≡ Waits t → x ≡ Waits u → t ≡ u
same-round x t u e f = cc (e, f)

not-both : (x : Ending Finish) (a : Option Finish) (t : ℕ) → x ≡ Ends a → x ≢ Waits t
not-both x a t e f = cc (e, f)

module _ (book : Book) (words : Words) (b : IsBook book) (runs : CanRun book words) where
  whole : book_with book.grid (farmers_of book.bidders words.bidders) ≡ book
  whole = book-whole book words.bidders runs.enough.count

  pub ends : AuctionEnds (auction_over book.grid) (setup_for book words) (book_rounds book words.masks) (book_finish book words.masks)
  ends =
      let farmers = farmers_of book.bidders words.bidders in
      let is_book : IsBook (book_with book.grid farmers) = subst IsBook (sym whole) b in
      subst (λ x. AuctionEnds (auction_over book.grid) (setup_for book words) (book_rounds x words.masks) (book_finish x words.masks)) whole
      (book-ends (book_with book.grid farmers) (setup_for book words) (slopes_of book.grid farmers) is_book
      (are-masks words runs.are_words) refl
      (book-lines book.grid farmers is_book))

  -- all rounds are passed, or not
  module _ (es : List Triple) (s : Point) where
    abbrev rounds : ℕ
    rounds = rounds_for book words

    abbrev at : ℕ
    at = passed rounds (after rounds es) s

    abbrev named : Option Finish
    named = plan_finish (auction_plan (auction_over book.grid)) (shared_at (setup_for book words) rounds).opened

    ended : at ≡ rounds → standing book words es s ≡ Ends (Some (book_finish book words.masks))
    ended all =
        (λ i. if eq-eqb at rounds all i then Ends named else Waits at)
        ∙ ap Ends (ap (λ n. plan_finish (auction_plan (auction_over book.grid))
        (shared_at (setup_for book words) n).opened) ends.counted ∙ ends.finish_named)

    pub waiting : at ≢ rounds → standing book words es s ≡ Waits at
    waiting some = λ i. if ne_eqb at rounds some i then Ends named else Waits at

    end-is : (end : Option Finish) → standing book words es s ≡ Ends end → end ≡ Some (book_finish book words.masks)
    end-is end e = elim (cases_eq at rounds) [
      | inl all ↦ same-end (standing book words es s) end (Some (book_finish book words.masks)) e (ended all)
      | inr some ↦ absurd (not-both (standing book words es s) end at e (waiting some))
    ]

    pub stands : OpensTheOutcome book words es s
    stands = record {
      opens = λ few end e. end-is end e ∙ (λ i. Some (if few i then MasksSpent else finish_of (outcome_of book)));
      spent = λ many end e. end-is end e ∙ (λ i. Some (if many i then MasksSpent else finish_of (outcome_of book)));
      waits = λ t e. elim (cases_eq at rounds) [
        | inl all ↦ absurd (not-both (standing book words es s) (Some (book_finish book words.masks)) t (ended all) e)
        | inr some ↦
            let here : t ≡ at = same-round (standing book words es s) t at e (waiting some) in
            elim (cases_lt at rounds) [
              | inl lt ↦ omega (arith, here, lt, ends.counted)
              | inr past ↦ absurd (some (omega (arith, past, passed_most three-is rounds (after rounds es) s)))
            ]
      ];
      rounds = ends.counted;
    }

  pub all-ended : (es : List Triple) → AllDelivered book words es → AllHaveEnded book words es
  all-ended es none =
      let rounds : ℕ = rounds_for book words in
      let all : (s : Point) → passed rounds (after rounds es) s ≡ rounds = passed_all three-is rounds (after rounds es) none in
      elim (cases_Bool (are_spent book words)) [
        | inl many ↦ inr (many, λ s. ended es s (all s) ∙ (λ i. Ends (Some (if many i then MasksSpent else finish_of (outcome_of book)))))
        | inr few ↦ inl (few, λ s. ended es s (all s) ∙ (λ i. Ends (Some (if few i then MasksSpent else finish_of (outcome_of book)))))
      ]

  pub only : (finish : Finish) → AllEndWith book words finish → finish ≡ book_finish book words.masks
  only finish all =
      let rounds : ℕ = rounds_for book words in
      let end = to-the-end rounds [] in
      let there : passed rounds (after rounds end.0) One ≡ rounds = passed_all three-is rounds (after rounds end.0) end.1 One in
      sym (same-finish (book_finish book words.masks) finish (all end.0 One (Some (book_finish book words.masks)) (ended end.0 One there)))

  pub cores : (w : World Auction) (s : Point) (c : Core Auction) → w.start.one.script ≡ auction_over book.grid →
      auction_in w ≡ setup_for book words →
      IsAuctionCore w s c → StandsBy (book_rounds book words.masks) (book_finish book words.masks) w s c
  cores w s c script setup is =
      let rounds = book_rounds book words.masks in
      let finish = book_finish book words.masks in
      stands-by w s c is rounds finish
      (subst (λ a. AuctionEnds a (auction_in w) rounds finish) (sym script)
      (subst (λ o. AuctionEnds (auction_over book.grid) o rounds finish) (sym setup) ends))

  -- in a `World` whose servers were given events the core of each stands by the definition of its end
  module _ (es : List Triple) (w : World Auction) (s : Point) (c : Core Auction) (given : WereGiven book words es w)
      (is : IsAuctionCore w s c) where
    by : StandsBy (book_rounds book words.masks) (book_finish book words.masks) w s c
    by = cores w s c given.began.script given.began.setup is

    passed-here : passed (book_rounds book words.masks) (delivered_in w) s ≡ passed (rounds_for book words)
        (after (rounds_for book words) es) s
    passed-here = λ i. passed (sym ends.counted i) (given.given i) s

    as-defined : ending_at c ≡ standing book words es s
    as-defined =
        let named : Option Finish = plan_finish (auction_plan c.script) c.opened in
        elim (cases_Bool (has_ended auction_batch c)) [
          | inl over ↦
              (λ i. if over i then Ends named else Waits c.round) ∙ ap Ends (by.opens over)
              ∙ sym (ended es s (sym passed-here ∙ by.ended.0 over ∙ sym ends.counted))
          | inr going ↦
              (λ i. if going i then Ends named else Waits c.round) ∙ ap Waits (by.round ∙ passed-here)
              ∙ sym (waiting es s (λ all. true≢false (sym (by.ended.1 (passed-here ∙ all ∙ ends.counted)) ∙ going)))
        ]

    pub core-stands : CoreOpensTheOutcome book words es s c
    core-stands = record {
      right = subst (λ e. StandsRight book words e) (sym as-defined) (stands es s);
      defined = as-defined;
    }

-- the rounds of a `World` that began so
rounds-begun : (book : Book) (words : Words) (w : World Auction) → Began book words w →
    rounds_in auction_batch inputs_of most_rounds w ≡ rounds_for book words
rounds-begun book words w b = λ i. rounds_among (b.setup i) (most_rounds (b.script i))

-- one that has just begun was given no events
pub given-none : (book : Book) (words : Words) (w : World Auction) → Began book words w →
    w.marks ≡ unmarked (most_rounds w.start.one.script) → WereGiven book words [] w
given-none book words w b none = record {
  began = b;
  given = ap set_of none ∙ set-unmarked (most_rounds w.start.one.script);
}

-- and one that goes on is given more
pub given-more : (book : Book) (words : Words) (es more : List Triple) (w w' : World Auction) →
    WereGiven book words es w →
    w'.start ≡ w.start → delivered_in w' ≡ after_from (rounds_in auction_batch inputs_of most_rounds w)
    (delivered_in w) more →
    WereGiven book words (es ++ more) w'
given-more book words es more w w' g same delivered = record {
  began = record {
    script = ap (λ (start : Trio (Core Auction)). start.one.script) same ∙ g.began.script;
    setup = ap (setup_of auction_batch inputs_of) same ∙ g.began.setup;
  };
  given = delivered ∙ (λ i. after_from (rounds-begun book words w g.began i) (g.given i) more)
      ∙ sym (after_append three-is (rounds_for book words) es more nothing);
}
