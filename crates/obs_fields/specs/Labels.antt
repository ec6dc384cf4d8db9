-- The labels of header lines.
use Rattle.std.specs.Prelude.{ℕ, ◌&&◌, Bool, true, false, List, codes, Result, Ok, if◌then◌else◌}
use Rattle.std.specs.Str.{bytes_eq}
use Rattle.rinex_head.specs.declared.place.Flaw.{Flaw}
use Rattle.rinex_head.specs.declared.place.What.TheVariants.{Changed}
use Rattle.rinex_head.specs.Head.{label_of}
use Rattle.rinex_head.specs.Places.{flawed}
use Rattle.obs_fields.specs.declared.layout.Layout.{Layout}
use Rattle.obs_fields.specs.declared.labels.Label.{Label}
use Rattle.obs_fields.specs.declared.labels.Label.TheVariants as label
use Rattle.obs_fields.specs.Layouts.{types_label_of, factor_label_of}

-- the labels that count
abbrev pub named_label : Layout → List ℕ → Label
named_label layout name =
    if bytes_eq name (codes "END OF HEADER") then label.End else
    (if bytes_eq name (codes "APPROX POSITION XYZ") then label.Position else
    (if bytes_eq name (codes "ANTENNA: DELTA H/E/N") then label.Delta else
    (if bytes_eq name (types_label_of layout) then label.Types else
    (if bytes_eq name (factor_label_of layout) then label.Factor else
    (if bytes_eq name (codes "TIME OF FIRST OBS") then label.FirstObs else
    (if bytes_eq name (codes "COMMENT") then label.Comment else label.Other))))))

unfoldable pub label_in : Layout → List ℕ → Label
label_in layout line = named_label layout (label_of line)

-- a line that would change what the header says
abbrev pub changes_header : Label → Bool
changes_header label.Types = true
changes_header label.Factor = true
changes_header label.End = false
changes_header label.Position = false
changes_header label.Delta = false
changes_header label.FirstObs = false
changes_header label.Comment = false
changes_header label.Other = false

-- a line of an event, after which the header may change or not
unfoldable pub event_line_of : Layout → Bool → List ℕ → Result (Unit {0}) Flaw
event_line_of layout changes bytes = if changes && changes_header (label_in layout bytes) then flawed 61 Changed else Ok tt
