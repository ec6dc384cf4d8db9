pub mod CutLaws
pub mod RangeLaws
pub mod FewArcs
pub mod FirstArcs
pub mod StandsLaws
pub mod RoundLaws
