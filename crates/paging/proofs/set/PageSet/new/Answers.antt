-- The empty set. Assumes nothing.
use Rattle.std.proofs.Common.{sym, refl, ap, ◌∙◌}
use Rattle.paging.specs.Pages.{size}
use Rattle.paging.proofs.Sets.{flagged_none}
use Rattle.paging.proofs.Sets.{size_nothing}
use Rattle.paging.proofs.set.PageSet.new.Goals as goal

pub invariant_of-result : goal.invariant_of-result
invariant_of-result c = record { counted = sym (ap size (flagged_none 256) ∙ size_nothing); wide = refl }

pub returns : goal.returns
returns c = flagged_none 256
