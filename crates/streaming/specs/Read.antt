-- What the code's records of a face stand for, in numbers alone.
use Rattle.streaming.specs.declared.line.Line.{Line}
use Rattle.streaming.specs.declared.names.Names as Code
use Rattle.streaming.specs.Faces.{Names}
use Rattle.streaming.specs.Lines.{Stretch}

abbrev pub stretch : Line → Stretch
stretch l = record { start = l.start; stride = l.stride; count = l.count }

abbrev pub names_in : Code.Names → Names
names_in d = record {
  n = d.incoming.n.index;
  t = d.t.index;
  tm = d.tm.index;
  np = d.incoming.np.index;
  nm = d.incoming.nm.index;
}
