-- The lines of a text, passed on from `lines`: `report` has a module of that name and cannot name the crate.
pub use Rattle.lines.specs.declared.line.Line.{Line}
pub use Rattle.lines.specs.Lines.{lines_of}
