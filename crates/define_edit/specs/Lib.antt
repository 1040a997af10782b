pub mod CreatedSchemas
