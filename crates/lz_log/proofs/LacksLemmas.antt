-- What errors say of a reading.
use Rattle.lz_log.specs.declared.lines.Unread.{Unread}
use Rattle.lz_log.specs.declared.lines.Unread.TheVariants as unread
use Rattle.lz_log.specs.Lines.{Lacks}

-- what follows where there is no reading
pub lacks_more : (P Q : Type 0) (e : Unread) → (P → Q) → Lacks P e → Lacks Q e
lacks_more P Q unread.NoReading f h = f h
lacks_more P Q unread.Memory f h = tt
