-- What a query is answered by: the two halves of what its snapshot says.
use Rattle.rules.specs.Fabric.{Shape, Setting, shape_of, setting_of}
use Rattle.cover.specs.declared.Query.{Query}

abbrev pub shape : Query → Shape
shape q = shape_of q.bytes.now

abbrev pub setting : Query → Setting
setting q = setting_of q.bytes.now
