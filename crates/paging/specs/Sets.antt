-- The set of pages that a value of the code's set type stands for. Assumes nothing.
use Rattle.paging.specs.declared.set.PageSet.{PageSet}
use Rattle.paging.specs.Pages.{Pages}
use Rattle.paging.specs.Flags.{flagged}

abbrev pub pages : PageSet → Pages
pages s = flagged s.held
