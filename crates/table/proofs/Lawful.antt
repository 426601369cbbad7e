-- Both kinds of tables keep the rules of every bank.

use Rattle.bank.specs.Laws.{Laws}
use Rattle.table.specs.Lawful.{timetabled_lawful}
use Rattle.table.specs.Rasters.{raster}
use Rattle.table.specs.Sporadics.{sporadic}
use Rattle.table.specs.WaitsLemmas.{tick_opens_no_more, turn_opens_no_more}

pub sporadic_lawful : Laws sporadic
sporadic_lawful = timetabled_lawful _ _ _ _ (λ r wait m. tick_opens_no_more wait r.row.gap m r.within.0.0)

pub raster_lawful : Laws raster
raster_lawful = timetabled_lawful _ _ _ _ (λ s wait m. turn_opens_no_more wait s.record.row.gap m s.record.within.0.0)
