pub mod ScratchLaws
pub mod CopyLaws
pub mod RecordText
pub mod Named
pub mod Topics
pub mod Asked
