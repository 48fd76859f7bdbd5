use Rattle.listing.proofs.Words.{lines_of}
use Rattle.listing.proofs.RegionLineLemmas.{regions_fit_given}
use Rattle.listing.proofs.region_listing.read_regions.Goals as goal

pub returns-clause-fit : goal.returns-clause-fit
returns-clause-fit c =
    regions_fit_given c.entries_in.result 2 (lines_of c.cut_line.result.1.now) c.entries_in.ensures
