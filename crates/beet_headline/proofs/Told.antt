-- Bidders that are seen one by one tell the book.
use Rattle.std.proofs.Common.{◌≡◌, ◌<◌, ◌+◌, ◌*◌, ℕ, suc, List, [], ◌∷◌, length, map, Some, slice_get, slice_index, refl}
use Rattle.std.proofs.Common.{sym, ap, ◌∙◌, arith}
use Rattle.std.proofs.lemmas.List.{get_or_append_left, get_or-append-add, length-map}
use Rattle.std.proofs.lemmas.Option.{same_Some}
use Rattle.beet_bids.specs.Books.{IsBook}
use Rattle.beet_bids.specs.Curves.{Curve, IsCurve, IsOfGrid, quantity}
use Rattle.beet_bids.specs.Grids.{Grid}
use Rattle.beet_bids.specs.declared.book.Bidder.{Bidder}
use Rattle.beet_book.specs.Farmers.{BidderWithWords, farmers_of}
use Rattle.beet_turned.proofs.MasksBack.{all-at}
use Rattle.beet_map.proofs.Disagreeing.{get-map}
use Rattle.beet_two_books.proofs.BidderFacts.{bidders-have}
use Rattle.beet_two_books.proofs.BidderFacts.{curves-same}
use Rattle.beet_five_dealing.proofs.FiveSums.{length-farmers}
use Rattle.beet_headline.proofs.Telling.{over}

-- items at one place of lists that look alike look alike
pub alike-each : {A B : Type 0} (see : A → B) (xs ys : List A) → map see ys ≡ map see xs → (k : ℕ) (x y : A) →
    slice_get xs k ≡ Some x → slice_get ys k ≡ Some y → see y ≡ see x
alike-each see xs ys e k x y at at' =
    same_Some (see y) (see x) (sym (get-map see ys k y at') ∙ ap (λ l. slice_get l k) e ∙ get-map see xs k x at)

-- the quantities of a grid tell a curve
pub curves-told : (grid : Grid) (one other : Curve) → IsOfGrid grid one → IsOfGrid grid other →
    ((n : ℕ) → n < 2 * grid.prices → quantity other n ≡ quantity one n) → other ≡ one
curves-told grid one other g h same =
    curves-same one other grid.prices g.buy_length g.sell_length h.buy_length h.sell_length
    (λ k lt.
    sym (get_or_append_left other.buy other.sell 0 k (omega (arith, lt, h.buy_length))) ∙ same k (omega (arith, lt))
    ∙ get_or_append_left one.buy one.sell 0 k (omega (arith, lt, g.buy_length)))
    (λ k lt. sym (at-sell other k h.buy_length) ∙ same (grid.prices + k) (omega (arith, lt))
    ∙ at-sell one k g.buy_length)
  where
    at-sell : (x : Curve) (k : ℕ) → length x.buy ≡ grid.prices → quantity x (grid.prices + k) ≡ slice_index x.sell k
    at-sell x k e = ap (λ n. quantity x (n + k)) (sym e) ∙ get_or-append-add x.buy x.sell k 0

-- bidders that are the same, place by place
each-told : (bidders others : List Bidder) (words words' : List (List ℕ)) → length words ≡ length bidders →
    length words' ≡ length others → length others ≡ length bidders →
    ((k : ℕ) (f g : BidderWithWords) → slice_get (farmers_of bidders words) k ≡ Some f →
    slice_get (farmers_of others words') k ≡ Some g → g.bidder ≡ f.bidder) → others ≡ bidders
each-told [] [] words words' n n' m told = refl
each-told [] (o ∷ os) words words' n n' m told = absurd (omega (arith, m))
each-told (b ∷ bs) [] words words' n n' m told = absurd (omega (arith, m))
each-told (b ∷ bs) (o ∷ os) [] words' n n' m told = absurd (omega (arith, n))
each-told (b ∷ bs) (o ∷ os) (w ∷ ws) [] n n' m told = absurd (omega (arith, n'))
each-told (b ∷ bs) (o ∷ os) (w ∷ ws) (v ∷ vs) n n' m told =
    let first : o ≡ b = told 0 (record { bidder = b; words = w }) (record { bidder = o; words = v }) refl refl in
    let rest : os ≡ bs =
    each-told bs os ws vs (omega (arith, n)) (omega (arith, n')) (omega (arith, m)) (λ k f g. told (suc k) f g) in
    λ i. first i ∷ rest i

module _ (grid : Grid) (bidders others : List Bidder) (words words' : List (List ℕ)) (is : IsBook (over grid bidders))
    (is' : IsBook (over grid others)) (n : length words ≡ length bidders) (n' : length words' ≡ length others) where
  -- of bidders that look alike there are as many
  pub as-many : {A : Type 0} (see : BidderWithWords → A) →
      map see (farmers_of others words') ≡ map see (farmers_of bidders words) → length others ≡ length bidders
  as-many see e =
      sym (length-farmers others words' n') ∙ sym (length-map (farmers_of others words') see) ∙ ap length e
      ∙ length-map (farmers_of bidders words) see ∙ length-farmers bidders words n

  -- the same mark, and the same quantities
  abbrev pub AreSame : BidderWithWords → BidderWithWords → Type 0
  AreSame f g =
      (g.bidder.known ≡ f.bidder.known)
      × ((n : ℕ) → n < 2 * grid.prices → quantity g.bidder.curve n ≡ quantity f.bidder.curve n)

  -- if at each place there are the same mark and the same quantities, the books are one
  pub books-told : length others ≡ length bidders →
      ((k : ℕ) (f g : BidderWithWords) → slice_get (farmers_of bidders words) k ≡ Some f →
      slice_get (farmers_of others words') k ≡ Some g → IsCurve f.bidder.curve → IsCurve g.bidder.curve → AreSame f g) →
      over grid others ≡ over grid bidders
  books-told many told =
      let same : others ≡ bidders = each-told bidders others words words' n n' many
      (λ k f g at at'.
      let fs = farmers_of bidders words in
      let gs = farmers_of others words' in
      let c = all-at (λ (x : BidderWithWords). IsCurve x.bidder.curve) fs k f
      (bidders-have (λ (b : Bidder). IsCurve b.curve) bidders words is.curves) at in
      let d = all-at (λ (x : BidderWithWords). IsCurve x.bidder.curve) gs k g
      (bidders-have (λ (b : Bidder). IsCurve b.curve) others words' is'.curves) at' in
      let h = all-at (λ (x : BidderWithWords). IsOfGrid grid x.bidder.curve) fs k f
      (bidders-have (λ (b : Bidder). IsOfGrid grid b.curve) bidders words is.of_grid) at in
      let l = all-at (λ (x : BidderWithWords). IsOfGrid grid x.bidder.curve) gs k g
      (bidders-have (λ (b : Bidder). IsOfGrid grid b.curve) others words' is'.of_grid) at' in
      let t = told k f g at at' c d in
      let curve = curves-told grid f.bidder.curve g.bidder.curve h l t.1 in
      λ i. record { known = t.0 i; curve = curve i }) in
      λ i. record { grid = grid; bidders = same i }
