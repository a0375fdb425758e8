-- The set of pages that a row of flags stands for. Assumes nothing.
use Rattle.std.specs.Prelude.{Bool, false, List, slice_index_or}
use Rattle.paging.specs.Pages.{Pages}

abbrev pub flagged : List Bool → Pages
flagged h c = slice_index_or h c false
