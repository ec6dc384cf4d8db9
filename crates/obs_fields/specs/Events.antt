-- An event in the body of an observation file.
use Rattle.std.specs.Prelude.{◌≡◌, ℕ, ◌≤◌, List, [], ◌∷◌, length, Bool, Ok}
use Rattle.obs_fields.specs.declared.layout.Layout.{Layout}
use Rattle.obs_fields.specs.Labels.{event_line_of}

-- an event's line, and its lines
pub record EventPart : Type 0 where
  pub bytes : List ℕ
  pub changes : Bool
  pub event_lines : List (List ℕ)

abbrev pub AreEventLines : Layout → Bool → List (List ℕ) → Type 0
AreEventLines layout changes [] = Unit {0}
AreEventLines layout changes (bytes ∷ lines) = (length bytes ≤ 4096) × (event_line_of layout changes bytes ≡ Ok tt) × AreEventLines layout changes lines

-- Its line says, by its format, whether the header may change and how many lines follow.
pub record IsEventPart (layout : Layout) (Says : List ℕ → Bool → ℕ → Type 0) (p : EventPart) : Type 0 where
  pub short : length p.bytes ≤ 4096
  pub is_read : Says p.bytes p.changes (length p.event_lines)
  pub lines : AreEventLines layout p.changes p.event_lines
