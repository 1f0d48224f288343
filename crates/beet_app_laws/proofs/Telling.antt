-- Values that no list of numbers tells apart are one, so that a step reads one value over the same files.
use Rattle.std.proofs.Common.{◌≡◌, ℕ, List, [], ◌∷◌, length, get_or, Option, Some, None, refl, sym, ap, ◌∙◌, arith}
use Rattle.beet_field.specs.Point.{number_of}
use Rattle.beet_field.specs.declared.point.Point.{Point}
use Rattle.beet_field.specs.declared.point.Point.TheVariants.{One, Two, Three}
use Rattle.beet_field.specs.declared.trio.Trio.{Trio}
use Rattle.beet_store.specs.Files.{File}
use Rattle.beet_gates.specs.declared.Gates.{Gates}
use Rattle.beet_bids.specs.Curves.{Curve}
use Rattle.beet_bids.specs.Grids.{Grid}
use Rattle.beet_bids.specs.declared.book.Bidder.{Bidder}
use Rattle.beet_bids.specs.declared.outcomes.Policy.{Policy}
use Rattle.beet_bids.specs.declared.outcomes.Policy.TheVariants.{Price, Volume, Full}
use Rattle.beet_book.specs.Farmers.{BidderWithWords}
use Rattle.beet_view.specs.Transcripts.{gates_of, number_of_gates, policy_field, policy_of, server_of}
use Rattle.beet_view.specs.Views.{Viewed}
use Rattle.beet_view.specs.declared.view.Seen.{Seen}
use Rattle.beet_view.proofs.ViewAgain.{gates_of-number}
use Rattle.beet_errand.specs.Errands.{Answer, Step, answers}
use Rattle.beet_errand.specs.declared.answer.Status.TheVariants.{Done}
use Rattle.beet_load.specs.Loading.{AuctionWithBidders}
use Rattle.beet_load.specs.Servers.{ServerWords}
use Rattle.beet_job_audit.specs.declared.reading.ReadViews.{ReadViews}
use Rattle.beet_job_worlds.specs.Reading.{Both}
use Rattle.beet_bids.specs.Books.{Book}
use Rattle.beet_five_dealing.specs.FiveWords.{FiveWords}
use Rattle.beet_five_load.specs.FiveLoading.{FiveRead}
use Rattle.beet_job_five_worlds.specs.Reading.{BothOfFive}
use Rattle.beet_errand.specs.Overs.{ReadsTo}

-- no list of numbers tells these apart
abbrev pub AreAlike : {A : Type 0} → A → A → Type 0
AreAlike {A = A} a b = (f : A → List ℕ) → f a ≡ f b

-- of this type, values that are alike are one
abbrev pub IsTold : Type 0 → Type 0
IsTold A = (a b : A) → AreAlike a b → a ≡ b

-- a part of values that are alike is one where it is told
pub part : {A B : Type 0} → IsTold B → (f : A → B) (a b : A) → AreAlike a b → f a ≡ f b
part t f a b h = t (f a) (f b) (λ g. h (λ x. g (f x)))

pub told-list : IsTold (List ℕ)
told-list a b h = h (λ l. l)

pub told-number : IsTold ℕ
told-number a b h = ap (λ l. get_or l 0 0) (h (λ n. n ∷ []))

-- a type is told where it is read back from what is told
told-back : {A B : Type 0} (code : A → B) (back : B → A) → ((a : A) → back (code a) ≡ a) → IsTold B → IsTold A
told-back code back again t a b h = sym (again a) ∙ ap back (part t code a b h) ∙ again b

server-again : (s : Point) → server_of (number_of s) ≡ s
server-again One = refl
server-again Two = refl
server-again Three = refl

pub told-server : IsTold Point
told-server = told-back number_of server_of server-again told-number

pub told-gates : IsTold Gates
told-gates = told-back number_of_gates gates_of gates_of-number told-number

abbrev policy_in : List ℕ → Policy
policy_in [] = Volume
policy_in (number ∷ numbers) = policy_of number

policy-again : (policy : Policy) → policy_in (policy_field policy) ≡ policy
policy-again Price = refl
policy-again Volume = refl
policy-again Full = refl

told-policy : IsTold Policy
told-policy = told-back policy_field policy_in policy-again told-list

told-pair : {A B : Type 0} → IsTold A → IsTold B → IsTold (A × B)
told-pair t u a b h =
    let first = part t (λ p. p.0) a b h in
    let second = part u (λ p. p.1) a b h in
    λ i. (first i, second i)

pub told-trio : {A : Type 0} → IsTold A → IsTold (Trio A)
told-trio {A = A} t a b h =
    let one = part t (λ (x : Trio A). x.one) a b h in
    let two = part t (λ (x : Trio A). x.two) a b h in
    let three = part t (λ (x : Trio A). x.three) a b h in
    λ i. record { one = one i; two = two i; three = three i }

-- what is told of a value that is there
abbrev where_some : {A : Type 0} → (A → List ℕ) → Option A → List ℕ
where_some f None = []
where_some f (Some x) = f x

-- the numbers of what is there: none or one
abbrev count : {A : Type 0} → Option A → List ℕ
count None = []
count (Some x) = 0 ∷ []

pub told-option : {A : Type 0} → IsTold A → IsTold (Option A)
told-option t None None h = refl
told-option t None (Some y) h = let e : 0 ≡ 1 = ap length (h count) in absurd (omega (arith, e))
told-option t (Some x) None h = let e : 1 ≡ 0 = ap length (h count) in absurd (omega (arith, e))
told-option t (Some x) (Some y) h = ap Some (t x y (λ f. h (where_some f)))

abbrev first_of : {A : Type 0} → List A → Option A
first_of [] = None
first_of (x ∷ xs) = Some x

abbrev others_of : {A : Type 0} → List A → List A
others_of [] = []
others_of (x ∷ xs) = xs

pub told-each : {A : Type 0} → IsTold A → IsTold (List A)
told-each t [] [] h = refl
told-each t [] (y ∷ ys) h = let e : 0 ≡ 1 = ap length (h (λ l. count (first_of l))) in absurd (omega (arith, e))
told-each t (x ∷ xs) [] h = let e : 1 ≡ 0 = ap length (h (λ l. count (first_of l))) in absurd (omega (arith, e))
told-each t (x ∷ xs) (y ∷ ys) h =
    let first = t x y (λ f. h (λ l. where_some f (first_of l))) in
    let others = told-each t xs ys (λ f. h (λ l. f (others_of l))) in
    λ i. first i ∷ others i

told-grid : IsTold Grid
told-grid a b h =
    let base = part told-number (λ (g : Grid). g.base) a b h in
    let tick = part told-number (λ (g : Grid). g.tick) a b h in
    let prices = part told-number (λ (g : Grid). g.prices) a b h in
    let gates = part told-gates (λ (g : Grid). g.gates) a b h in
    let policy = part told-policy (λ (g : Grid). g.policy) a b h in
    λ i. record { base = base i; tick = tick i; prices = prices i; gates = gates i; policy = policy i }

told-curve : IsTold Curve
told-curve a b h =
    let buy = part told-list (λ (c : Curve). c.buy) a b h in
    let sell = part told-list (λ (c : Curve). c.sell) a b h in
    λ i. record { buy = buy i; sell = sell i }

told-seen : IsTold Seen
told-seen a b h =
    let known = part (told-option told-server) (λ (s : Seen). s.known) a b h in
    let points = part told-list (λ (s : Seen). s.points) a b h in
    let own = part (told-option (told-pair told-curve told-list)) (λ (s : Seen). s.own) a b h in
    λ i. record { known = known i; points = points i; own = own i }

told-view : IsTold Viewed
told-view a b h =
    let server = part told-server (λ (v : Viewed). v.server) a b h in
    let grid = part told-grid (λ (v : Viewed). v.grid) a b h in
    let bidders = part (told-each told-seen) (λ (v : Viewed). v.bidders) a b h in
    let masks = part told-list (λ (v : Viewed). v.masks) a b h in
    let coefficients = part told-list (λ (v : Viewed). v.coefficients) a b h in
    let rounds = part (told-each (told-pair told-list told-list)) (λ (v : Viewed). v.rounds) a b h in
    λ i. record {
      server = server i;
      grid = grid i;
      bidders = bidders i;
      masks = masks i;
      coefficients = coefficients i;
      rounds = rounds i;
    }

-- an auction and three transcripts that are read
pub told-views : IsTold ReadViews
told-views a b h =
    let grid = part told-grid (λ (r : ReadViews). r.grid) a b h in
    let views = part (told-trio told-view) (λ (r : ReadViews). r.views) a b h in
    λ i. record { grid = grid i; views = views i }

told-bidder : IsTold Bidder
told-bidder a b h =
    let known = part (told-option told-server) (λ (x : Bidder). x.known) a b h in
    let curve = part told-curve (λ (x : Bidder). x.curve) a b h in
    λ i. record { known = known i; curve = curve i }

told-farmer : IsTold BidderWithWords
told-farmer a b h =
    let bidder = part told-bidder (λ (f : BidderWithWords). f.bidder) a b h in
    let words = part told-list (λ (f : BidderWithWords). f.words) a b h in
    λ i. record { bidder = bidder i; words = words i }

told-words : IsTold ServerWords
told-words a b h =
    let masks = part told-list (λ (w : ServerWords). w.masks) a b h in
    let coefficients = part told-list (λ (w : ServerWords). w.coefficients) a b h in
    λ i. record { masks = masks i; coefficients = coefficients i }

told-loaded : IsTold AuctionWithBidders
told-loaded a b h =
    let grid = part told-grid (λ (l : AuctionWithBidders). l.grid) a b h in
    let servers = part (told-trio told-words) (λ (l : AuctionWithBidders). l.servers) a b h in
    let farmers = part (told-each told-farmer) (λ (l : AuctionWithBidders). l.farmers) a b h in
    λ i. record { grid = grid i; servers = servers i; farmers = farmers i }

-- two books that are read
pub told-both : IsTold Both
told-both a b h =
    let first = part told-loaded (λ (x : Both). x.first) a b h in
    let second = part (told-each told-bidder) (λ (x : Both). x.second) a b h in
    λ i. record { first = first i; second = second i }

told-book : IsTold Book
told-book a b h =
    let grid = part told-grid (λ (x : Book). x.grid) a b h in
    let bidders = part (told-each told-bidder) (λ (x : Book). x.bidders) a b h in
    λ i. record { grid = grid i; bidders = bidders i }

told-five-words : IsTold FiveWords
told-five-words a b h =
    let masks = part (told-each told-list) (λ (w : FiveWords). w.masks) a b h in
    let coefficients = part (told-each told-list) (λ (w : FiveWords). w.coefficients) a b h in
    let bidders = part (told-each told-list) (λ (w : FiveWords). w.bidders) a b h in
    λ i. record { masks = masks i; coefficients = coefficients i; bidders = bidders i }

-- two books that are read among five servers
pub told-both-of-five : IsTold BothOfFive
told-both-of-five a b h =
    let book = part told-book (λ (x : BothOfFive). x.first.book) a b h in
    let words = part told-five-words (λ (x : BothOfFive). x.first.words) a b h in
    let second = part (told-each told-bidder) (λ (x : BothOfFive). x.second) a b h in
    λ i. record { first = record { book = book i; words = words i }; second = second i }

module _ {A : Type 0} (files : List File) (step : Step A) (a b : A) (ra : ReadsTo files step a)
    (rb : ReadsTo files step b) where
  -- what is told of one value that a step reads is told of the other
  pub same-told : AreAlike a b
  same-told f = ap (λ (x : Answer). x.text) (sym (ra (λ v. answers Done (f v))) ∙ rb (λ v. answers Done (f v)))

  pub same-number : (f : A → ℕ) → f a ≡ f b
  same-number f = told-number (f a) (f b) (λ g. same-told (λ v. g (f v)))

  -- so it is one value
  pub one-value : IsTold A → a ≡ b
  one-value t = t a b same-told
