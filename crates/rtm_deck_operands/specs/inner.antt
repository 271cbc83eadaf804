-- How operands are read, computed. Nobody has to believe it: the relation SpellsSlots says which values operands spell,
-- and what is computed here is proved to be those.
pub mod Reading
pub mod Part
