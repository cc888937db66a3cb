-- `count::space_behind` meets its contract: by whether a header fits behind the free spot, and if not, by whether all is popped. Assumes nothing.
use Rattle.std.proofs.Common.{sym}
use Rattle.count.proofs.Spaces.{space_spot}
use Rattle.count.proofs.space_behind.Goals as goal

pub returns-then-is_some : goal.returns-then-is_some
returns-then-is_some c =
    space_spot c.requires.0 c.requires.1 c.find_free_in_page-free.ensures (rw (← c.available_data_bytes.ensures, sym c.if-is_some.ensures))

pub returns-then-is_page_empty : goal.returns-then-is_page_empty
returns-then-is_page_empty c =
    space_spot c.requires.0 c.requires.1 c.find_free_in_page-free.ensures
    (rw (← c.available_data_bytes.ensures, sym c.if-is_some.ensures, sym c.if-is_page_empty.ensures, c.calculate_page_size.ensures))

pub returns : goal.returns
returns c =
    space_spot c.requires.0 c.requires.1 c.find_free_in_page-free.ensures
    (rw (← c.available_data_bytes.ensures, sym c.if-is_some.ensures, sym c.if-is_page_empty.ensures))
