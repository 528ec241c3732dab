-- How layers and denials print: a layer by its name, a denial by the four things that it tells, spaces between.
use Rattle.std.specs.Prelude.{ℕ, List, ◌∷◌, ◌++◌, codes}
use Rattle.std.specs.Fmt.{decimal}
use Rattle.denials.specs.declared.Layer.{Layer}
use Rattle.denials.specs.declared.Layer.TheVariants as layer
use Rattle.denials.specs.declared.Told.{Told}
use Rattle.denials.specs.declared.Denial.{Denial}
use Rattle.denials.specs.Denials.{told}

abbrev pub layer_text : Layer → List ℕ
layer_text layer.Carrier = codes "carrier"
layer_text layer.Order = codes "order"
layer_text layer.Record = codes "record"
layer_text layer.Totals = codes "totals"
layer_text layer.Run = codes "run"
layer_text layer.Number = codes "number"
layer_text layer.Register = codes "register"
layer_text layer.Accounts = codes "accounts"

abbrev pub told_text : Told → List ℕ
told_text t = decimal t.number ++ (32 ∷ (layer_text t.layer ++ (32 ∷ (decimal t.«record» ++ (32 ∷ decimal t.column)))))

abbrev pub denial_text : Denial → List ℕ
denial_text d = told_text (told d)
