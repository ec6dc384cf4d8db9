-- What is expected in a header after the lines that were read.
use Rattle.std.specs.Prelude.{None, Some}
use Rattle.std.specs.declared.option.Option.{Option}
use Rattle.obs_fields.specs.declared.types.TypeList.{TypeList}
use Rattle.obs_fields.specs.declared.header.Header.{Header}
use Rattle.obs_fields.specs.declared.open_header.BegunHeader.{BegunHeader}
use Rattle.obs_fields.specs.declared.open_header.OpenHeader.{OpenHeader}
use Rattle.obs_fields.specs.declared.open_header.OpenHeader.TheVariants as state
use Rattle.obs_fields.specs.HeaderRules.{HeaderSoFar, so_far, InHeader, First, Next, More, AfterLine, Inside, Whole}

abbrev pub said_so_far : BegunHeader → HeaderSoFar
said_so_far h = so_far h.system h.hundredths h.position h.delta h.types

-- the next line, or a further line of the list of types
abbrev pub next_in : HeaderSoFar → Option TypeList → InHeader
next_in h None = Next h
next_in h (Some list) = More h list.names list.left

abbrev pub expected_in_begun : BegunHeader → InHeader
expected_in_begun h = next_in (said_so_far h) h.list

abbrev pub expected_in_header : OpenHeader → InHeader
expected_in_header (state.First system) = First system
expected_in_header (state.Begun h) = expected_in_begun h

-- after a line, which may have been the end
abbrev pub behind_line : InHeader → Option Header → AfterLine
behind_line s None = Inside s
behind_line s (Some header) = Whole header
