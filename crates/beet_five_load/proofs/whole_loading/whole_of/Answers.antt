use Rattle.std.proofs.Common.{sym, subst}
use Rattle.beet_five_load.specs.FiveServers.{AreFew, ServerLists}
use Rattle.beet_five_load.proofs.Running.{makes-book, whole-grid, whole-many, whole-read, whole-runs}
use Rattle.beet_five_load.proofs.whole_loading.whole_of.Goals as goal

pub unreachable-requires : goal.unreachable-requires
unreachable-requires c =
    let book = makes-book _ _ _ c.requires.each c.requires.few in
    let is = c.into_parts-bidders.ensures.bidders in
    c.in-None.ensures.made (rw is book.few, rw is book.of_grid)

pub invariant_of-result : goal.invariant_of-result
invariant_of-result c =
    let made = c.in-Some.ensures.made.1 in
    let is = c.into_parts-bidders.ensures.bidders in
    let these = c.into_parts-bidders.ensures.words in
    record {
      chains = rw made c.requires.chains;
      is_book = c.in-Some.ensures.limits;
      runs = whole-runs _ _ _ _ _ _ _ made is these c.servers.view_is c.requires.serves c.requires.each
          (rw c.as_slice.ensures.value at c.tell_words.ensures);
      few_masks = subst (λ (l : ServerLists). AreFew l.masks) (sym c.servers.view_is) c.requires.serves.few_masks;
      few_coefficients =
          subst (λ (l : ServerLists). AreFew l.coefficients) (sym c.servers.view_is) c.requires.serves.few_coefficients;
      within = rw (
        whole-many _ _ _ _ _ _ _ made is these c.servers.view_is,
        whole-grid _ _ _ _ _ _ _ made is these c.servers.view_is,
      ) c.requires.within;
    }

pub returns : goal.returns
returns c =
    whole-read _ _ _ _ _ _ _ c.in-Some.ensures.made.1 c.into_parts-bidders.ensures.bidders c.into_parts-bidders.ensures.words
    c.servers.view_is
