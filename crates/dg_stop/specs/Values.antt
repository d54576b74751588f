-- What the code's values mean.
use Rattle.dg_stop.specs.Headers.{Header as Value}
use Rattle.dg_stop.specs.declared.headers.Header.{Header}

abbrev pub header_of : Header → Value
header_of h = record { sequence = h.sequence; committed = h.committed; member = h.member; size = h.size; room = h.room; extra = h.extra }
