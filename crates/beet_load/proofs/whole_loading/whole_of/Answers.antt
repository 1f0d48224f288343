use Rattle.std.proofs.Common.{arith, refl}
use Rattle.beet_load.proofs.KeptFarmers.{kept-same, kept-many, kept-of-grid, kept-runs}
use Rattle.beet_load.proofs.whole_loading.whole_of.Goals as goal

pub unreachable-requires : goal.unreachable-requires
unreachable-requires c =
    let many = kept-many _ _ c.requires.each _ c.into_parts-bidders.ensures.bidders in
    c.in-None.ensures.made (omega (arith, many, c.requires.few), kept-of-grid _ _ c.requires.each _ c.into_parts-bidders.ensures.bidders)

pub invariant_of-result : goal.invariant_of-result
invariant_of-result c =
    let many = kept-many _ _ c.requires.each _ c.into_parts-bidders.ensures.bidders in
    record {
      is_book = c.in-Some.ensures.limits;
      runs = kept-runs _ _ c.requires.each _ c.into_parts-bidders.ensures.bidders _ _ _ _ c.into_parts-bidders.ensures.words
          c.in-Some.ensures.made.1 c.words_with-words.ensures c.requires.enough c.requires.cut;
      within = rw (c.in-Some.ensures.made.1, many) c.requires.within;
    }

pub returns : goal.returns
returns c = kept-same _ _ _ _ _ _ _ c.into_parts-bidders.ensures.farmers c.in-Some.ensures.made.1 c.words_with-words.ensures _ refl
